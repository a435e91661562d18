-- What stays visible of an instance that comes to be whole.
use Rattle.std.specs.Prelude.{◌≡◌, ℕ, suc, ◌<◌, not, List, length}
use Rattle.placed_cells.specs.Above.{net_above}
use Rattle.placed_cells.specs.Splits.{IsSplit}
use Rattle.replaced_instances.specs.Steps.{IsStep, compared_at, compared_at_step, is_outside_at}
use Rattle.vrt_model.specs.Checked.{IsCircuitWith, before, top_of, with_circuit}
use Rattle.vrt_model.specs.Comparison.{Comparison}
use Rattle.vrt_model.specs.Cut.{Cut, NumberedPlace}
use Rattle.vrt_model.specs.Unrolled.{Place}
use Rattle.vrt_model.specs.declared.blif.Blif.{Blif}
use Rattle.vrt_model.specs.declared.circuit.Circuit.{Circuit}
use Rattle.vrt_model.specs.declared.whole.CellFacts.{CellFacts}
use Rattle.whole_solutions.specs.Observed.{HasLeftInstances, HidesItsNets}

-- The law: each net that is not compared is a plain net of the cell, those that remain of these are observed outputs, and all ports
-- are at nets that remain.
abbrev pub ChosenStepHidesItsNets : Type 0
ChosenStepHidesItsNets =
    (k : Comparison) (cut : Cut) (blif : Blif) (facts : List CellFacts) (i : ℕ) (p : NumberedPlace) (m depth : ℕ) (front back : List Place) (whole_circuit : Circuit) (phase : ℕ)
    → cut.top ≡ top_of k → phase < length cut.top.rules.phases
    → IsStep cut blif facts i p m → IsSplit cut.top (suc i) p.at depth front back → IsCircuitWith (before cut (suc i)) blif facts whole_circuit
    → let q = compared_at cut.top blif p m in
    HidesItsNets k q phase whole_circuit (net_above cut.top p.at) (is_outside_at cut.top depth p.at) (compared_at_step cut blif facts i p q)

-- The law: instances inside the cell are gone, and all others stay; whole instances stay, and the cell is one more, with an observed pin
-- at each observed input.
abbrev pub StepHasLeftInstances : Type 0
StepHasLeftInstances =
    (k : Comparison) (cut : Cut) (blif : Blif) (facts : List CellFacts) (i : ℕ) (p : NumberedPlace) (m depth : ℕ) (front back : List Place)
    (c whole_circuit : Circuit) (phase : ℕ)
    → cut.top ≡ top_of k → phase < length cut.top.rules.phases
    → IsStep cut blif facts i p m → IsSplit cut.top (suc i) p.at depth front back
    → IsCircuitWith (before cut i) blif facts c → IsCircuitWith (before cut (suc i)) blif facts whole_circuit
    → HasLeftInstances (with_circuit k c) (compared_at cut.top blif p m) phase whole_circuit (net_above cut.top p.at)
