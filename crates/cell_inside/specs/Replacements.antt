-- Observed nets of a circuit with a cell in it, and of the circuit in which the cell is left whole.
use Rattle.std.specs.Prelude.{◌≡◌, ℕ, ◌⊎◌, Bool, true}
use Rattle.vrt_model.specs.Known.{IsPlain}
use Rattle.vrt_model.specs.declared.circuit.Circuit.{Circuit}

-- each net that is observed in the circuit is compared and observed with the cell whole, or is an observed net of the cell
abbrev pub AreObservedThere : Circuit → (ℕ → ℕ) → (ℕ → ℕ) → (ℕ → Bool) → (ℕ → Bool) → (ℕ → Bool) → (ℕ → Bool) → Type 0
AreObservedThere cell at moved compared observed whole_observed cell_observed =
    (k : ℕ) → observed k ≡ true
    → ((compared k ≡ true) × (whole_observed (moved k) ≡ true)) ⊎ ((n : ℕ) × (k ≡ at n) × IsPlain cell n × (cell_observed n ≡ true))
