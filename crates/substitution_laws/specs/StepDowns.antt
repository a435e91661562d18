-- One step of the chain, as the law of firm ground asks.
use Rattle.std.specs.Prelude.{ℕ, suc, ◌<◌, List, length, map}
use Rattle.firm_faults.specs.StepDown.{HasOneMoreOriginal, IsStepDown}
use Rattle.placed_cells.specs.Above.{net_above}
use Rattle.replaced_instances.specs.Steps.{compared_at, compared_at_step, drive_at, exposed_at, fresh_place, is_outside_at}
use Rattle.substitution_laws.specs.Steps.{IsStepOf}
use Rattle.vrt_model.specs.Checked.{before, with_circuit}
use Rattle.vrt_model.specs.Comparison.{Comparison, is_observed, phase_at}
use Rattle.vrt_model.specs.Cut.{Cut, NumberedPlace, whole_places}
use Rattle.vrt_model.specs.FlatCircuit.{flat_instance}
use Rattle.vrt_model.specs.State.{Setting}
use Rattle.vrt_model.specs.Unrolled.{Place}
use Rattle.vrt_model.specs.declared.blif.Blif.{Blif}
use Rattle.vrt_model.specs.declared.circuit.Circuit.{Circuit}
use Rattle.vrt_model.specs.declared.circuit.FlatInstance.{FlatInstance}
use Rattle.vrt_model.specs.declared.whole.CellFacts.{CellFacts}
use Rattle.vrt_model.specs.declared.whole.Whole.{Whole}

-- the instances that are left whole, one for each whole instance of a circuit with this choice, in their order
abbrev pub whole_instances : Cut → List FlatInstance
whole_instances cut = map (λ (p : NumberedPlace). flat_instance p.at) (whole_places cut)

-- The law: the step is one down, from the circuit in which the instance is whole to that in which its cell stands, and this instance is
-- the one that the further whole one stands for.
abbrev pub StepsGoDown : Type 0
StepsGoDown =
    (k : Comparison) (cut : Cut) (blif : Blif) (facts : List CellFacts) (i : ℕ) (p : NumberedPlace) (m depth : ℕ) (front back : List Place) (c whole_circuit : Circuit) (phase : ℕ) (setting : Setting)
    → phase < length cut.top.rules.phases → IsStepOf k cut blif facts i p m depth front back c whole_circuit
    → let q = compared_at cut.top blif p m in
    (x : Whole)
    × IsStepDown (with_circuit k c) phase setting q.circuit whole_circuit (net_above cut.top p.at) (λ j. j) (fresh_place (before cut i) blif facts q)
    (is_outside_at cut.top depth p.at) (compared_at_step cut blif facts i p q) (is_observed q phase) (exposed_at cut blif facts i p q) (drive_at facts p q) x (flat_instance p.at)
    × HasOneMoreOriginal (phase_at k.rules phase) c whole_circuit (whole_instances (before cut i)) (whole_instances (before cut (suc i))) x (flat_instance p.at)
