-- Nets whose bits in the circuit are assured by the circuit with the cell whole and by the cell alone.
use Rattle.std.specs.Prelude.{◌≡◌, ℕ, ◌⊎◌, Bool, true}
use Rattle.cell_inside.specs.Placed.{alone}
use Rattle.cell_inside.specs.Replaced.{FightsBeside}
use Rattle.vrt_model.specs.Known.{IsPlain, is_plain_at}
use Rattle.vrt_model.specs.Response.{IsResponse, Shows}
use Rattle.vrt_model.specs.State.{Setting, State, network_of}
use Rattle.vrt_model.specs.declared.circuit.Circuit.{Circuit}

-- the net shows its bit with the cell whole, or in the cell alone, where no output that is joined to it fights
abbrev pub IsAssured : Circuit → Circuit → (ℕ → ℕ) → (ℕ → ℕ) → (ℕ → Bool) → (ℕ → Bool) → Setting → State → State → ℕ → Type 0
IsAssured cell whole_circuit at moved compared exposed setting s r k =
    ((compared k ≡ true) × IsResponse (network_of whole_circuit true setting.held r) (moved k) (Shows (r.reading (moved k))))
    ⊎ ((n : ℕ) × (k ≡ at n) × IsPlain cell n × IsResponse (alone cell true at s) n (Shows (s.reading (at n)))
    × (¬ FightsBeside (alone cell true at s) (network_of whole_circuit true setting.held r) (λ m. moved (at m)) (is_plain_at cell) exposed n))
