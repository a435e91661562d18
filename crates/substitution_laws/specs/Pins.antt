-- The whole instances of a circuit of the chain and their output pins, and those of the next one, where one more instance is whole.
use Rattle.std.specs.Prelude.{◌≡◌, ℕ, suc, ◌<◌, List, length}
use Rattle.firm_faults.specs.StepDown.{HasOneMoreWhole}
use Rattle.placed_cells.specs.Above.{net_above}
use Rattle.placed_cells.specs.Splits.{IsSplit}
use Rattle.replaced_cells.specs.OneMoreWhole.{HasCellPins}
use Rattle.replaced_instances.specs.Steps.{IsStep, compared_at, fresh_place, is_outside_at}
use Rattle.substitution_laws.specs.Chosen.{IsChoiceByFacts}
use Rattle.vrt_model.specs.Checked.{IsCircuitWith, before, top_of, with_circuit}
use Rattle.vrt_model.specs.Comparison.{Comparison, phase_at}
use Rattle.vrt_model.specs.Cut.{Cut, NumberedPlace}
use Rattle.vrt_model.specs.Unrolled.{Place}
use Rattle.vrt_model.specs.Unsupported.{IsSupported}
use Rattle.vrt_model.specs.WholeInstances.{IsWholeAt}
use Rattle.vrt_model.specs.declared.blif.Blif.{Blif}
use Rattle.vrt_model.specs.declared.circuit.Circuit.{Circuit}
use Rattle.vrt_model.specs.declared.whole.CellFacts.{CellFacts}
use Rattle.vrt_model.specs.declared.whole.Whole.{Whole}

-- an instance that is chosen, at a place that splits all others; and the circuits before and after it is whole
pub record IsChainStep (cut : Cut) (blif : Blif) (facts : List CellFacts) (i : ℕ) (p : NumberedPlace) (m depth : ℕ) (front back : List Place) (c whole_circuit : Circuit) : Type 0 where
  pub choice : IsChoiceByFacts cut blif facts
  pub chosen : IsStep cut blif facts i p m
  pub supported : IsSupported cut.top.design blif cut.top.rules p.at.cell m
  pub split : IsSplit cut.top (suc i) p.at depth front back
  pub circuit : IsCircuitWith (before cut i) blif facts c
  pub whole : IsCircuitWith (before cut (suc i)) blif facts whole_circuit

-- The law: pins that were there keep their signals, and those at plain nets of the cell are the instance's.
abbrev pub StepHasCellPins : Type 0
StepHasCellPins =
    (k : Comparison) (cut : Cut) (blif : Blif) (facts : List CellFacts) (i : ℕ) (p : NumberedPlace) (m depth : ℕ) (front back : List Place) (c whole_circuit : Circuit) (phase : ℕ)
    → cut.top ≡ top_of k → phase < length cut.top.rules.phases → IsChainStep cut blif facts i p m depth front back c whole_circuit
    → let q = compared_at cut.top blif p m in
    HasCellPins (with_circuit k c) q phase whole_circuit (net_above cut.top p.at) (λ j. j) (fresh_place (before cut i) blif facts q) (is_outside_at cut.top depth p.at)

-- The law: whole instances stay, each with its model, inputs, outputs and links, and the instance is one more.
abbrev pub StepHasOneMoreWhole : Type 0
StepHasOneMoreWhole =
    (k : Comparison) (cut : Cut) (blif : Blif) (facts : List CellFacts) (i : ℕ) (p : NumberedPlace) (m depth : ℕ) (front back : List Place) (c whole_circuit : Circuit) (phase : ℕ)
    → cut.top ≡ top_of k → phase < length cut.top.rules.phases → IsChainStep cut blif facts i p m depth front back c whole_circuit
    → (x : Whole) × IsWholeAt (before cut (suc i)) blif facts p x × HasOneMoreWhole (phase_at cut.top.rules phase) c whole_circuit (λ j. j) x
