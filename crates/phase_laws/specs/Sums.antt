-- How many operations a phase takes, and the work that holds them.
use Rattle.std.specs.Prelude.{ℕ, ◌+◌, ◌*◌, ◌≤◌, length, sum_by}
use Rattle.circuit_faults.specs.Operations.{kept_operations, steps_operations}
use Rattle.circuit_faults.specs.Steps.{in_comparison}
use Rattle.drive_levels.specs.NetLevels.{drive_operations}
use Rattle.path_fixpoint.specs.Parts.{pins_of}
use Rattle.phase_terms.specs.Opened.{opened_operations}
use Rattle.phase_terms.specs.declared.plan.PhasePlan.{PhasePlan}
use Rattle.vrt_model.specs.Budget.{constraints_size, model_size, work}
use Rattle.vrt_model.specs.Comparison.{Comparison, is_observed}
use Rattle.vrt_model.specs.declared.circuit.Circuit.{Circuit}
use Rattle.vrt_model.specs.declared.whole.Whole.{Whole}

-- ---- operations

-- of the search of a phase: those that open it, of the steps of the circuit, of the kept circuit, two for each literal and row of the model,
-- and four for each wish
abbrev pub search_operations : Comparison → ℕ → PhasePlan → ℕ
search_operations k phase plan =
    opened_operations k phase + steps_operations (in_comparison k phase plan.parts plan.steps (is_observed k phase))
    + kept_operations k.circuit plan.kept.list + 2 * model_size k.model + 4 * length plan.wishes

-- and those of the levels of output ports, with which it ends
abbrev pub phase_operations : Comparison → ℕ → PhasePlan → ℕ
phase_operations k phase plan = search_operations k phase plan + drive_operations k.circuit plan.parts.list plan.kept.list

-- ---- the work

-- the literals and rows of the models of whole instances
abbrev pub wholes_size : Circuit → ℕ
wholes_size c = sum_by (λ (w : Whole). model_size w.model) c.wholes

-- the work of a phase at one valuation, of a circuit that has at most so many devices
abbrev pub work_within : Comparison → ℕ → ℕ
work_within k devices = work (length k.circuit.nets) devices (model_size k.model + wholes_size k.circuit) (constraints_size k)

-- no more outputs of whole instances than forty for each pair of a net with a net or a device
abbrev pub HasFewOutputs : Circuit → ℕ → Type 0
HasFewOutputs c devices = length (pins_of c) ≤ 40 * ((length c.nets + 1) * (length c.nets + devices + 1))
