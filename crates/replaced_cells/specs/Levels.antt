-- Strengths of nets of a circuit with a cell in it, and of the circuit with this instance whole.
use Rattle.std.specs.Prelude.{◌≡◌, ℕ, Bool, true}
use Rattle.channel_parts.specs.OneSolution.{HasOneSolution}
use Rattle.replaced_cells.specs.OneMoreWhole.{HasPhaseLevel, IsOneMoreWhole}
use Rattle.vrt_model.specs.Checked.{with_circuit}
use Rattle.vrt_model.specs.Comparison.{Comparison, is_observed, phase_at}
use Rattle.vrt_model.specs.Equal.{Agree}
use Rattle.vrt_model.specs.Faults.{Solves}
use Rattle.vrt_model.specs.Known.{IsPlain}
use Rattle.vrt_model.specs.Reading.{Partial}
use Rattle.vrt_model.specs.Response.{IsStrength}
use Rattle.vrt_model.specs.Solution.{Agrees}
use Rattle.vrt_model.specs.State.{IsState, Setting, State, network_of}
use Rattle.vrt_model.specs.declared.circuit.Circuit.{Circuit}

-- the net has this strength at a setting, in the bare and in the kept circuit, under each reading that agrees with a solution
abbrev pub HasLevelAt : Comparison → ℕ → Setting → ℕ → ℕ → Type 0
HasLevelAt k phase setting n level =
    (a : Partial) (s : State) (which : Bool)
    → Solves k phase setting a → IsState k.circuit (phase_at k.rules phase) setting.inputs s → Agrees (is_observed k phase) a s.reading
    → IsStrength (network_of k.circuit which setting.held s) n level

-- The law: where nothing is wrong with the instance whole, a net outside has the strength that it has there, where the circuit has one
-- solution.
abbrev pub LevelsGoDown : Type 0
LevelsGoDown =
    (k q : Comparison) (phase : ℕ) (whole_circuit : Circuit) (at place fresh : ℕ → ℕ) (remaining compared exposed : ℕ → Bool) (drive : ℕ → ℕ) (setting : Setting) (n level : ℕ)
    → IsOneMoreWhole k q phase whole_circuit at place fresh remaining compared exposed drive
    → HasOneSolution k.circuit (phase_at k.rules phase) (is_observed k phase) setting
    → Agree (with_circuit k whole_circuit) phase setting
    → compared n ≡ true → HasLevelAt (with_circuit k whole_circuit) phase setting n level → HasLevelAt k phase setting n level

-- The law: and a plain net of the cell has the strength that it always has in the cell alone.
abbrev pub LevelsComeFromCells : Type 0
LevelsComeFromCells =
    (k q : Comparison) (phase : ℕ) (whole_circuit : Circuit) (at place fresh : ℕ → ℕ) (remaining compared exposed : ℕ → Bool) (drive : ℕ → ℕ) (setting : Setting) (n level : ℕ)
    → IsOneMoreWhole k q phase whole_circuit at place fresh remaining compared exposed drive
    → HasOneSolution k.circuit (phase_at k.rules phase) (is_observed k phase) setting
    → Agree (with_circuit k whole_circuit) phase setting
    → IsPlain q.circuit n → HasPhaseLevel q phase n level → HasLevelAt k phase setting (at n) level
