-- The instances for which the whole ones of a circuit stand, by their places in the unrolled netlist.
use Rattle.std.proofs.Common.{◌≡◌, ℕ, suc, List, [], ◌∷◌, ◌++◌, map, length, ap, sym, ◌∙◌, subst}
use Rattle.firm_faults.specs.Settled.{IsInstanceOfWhole}
use Rattle.firm_faults.specs.StepDown.{HasOneMoreOriginal}
use Rattle.replaced_instances.proofs.StepInstances.{zip_at_right}
use Rattle.replaced_instances.proofs.StepOutputs.{one_more_place}
use Rattle.substitution_laws.proofs.ChosenLaws.{chosen_instances_are_steps}
use Rattle.substitution_laws.proofs.WholeCells.{shown, whole_chosen}
use Rattle.substitution_laws.proofs.WholePins.{whole_stays, x, x_last}
use Rattle.substitution_laws.specs.Pins.{IsChainStep}
use Rattle.substitution_laws.specs.StepDowns.{whole_instances}
use Rattle.vrt_model.proofs.Lists.{at_front, at_last, at_map, map_at, one_at}
use Rattle.vrt_model.specs.Checked.{IsCircuitWith, before}
use Rattle.vrt_model.specs.Comparison.{phase_at}
use Rattle.vrt_model.specs.Cut.{Cut, NumberedPlace, whole_places}
use Rattle.vrt_model.specs.FlatCircuit.{flat_instance}
use Rattle.vrt_model.specs.Lists.{Among, At}
use Rattle.vrt_model.specs.Unrolled.{Place}
use Rattle.vrt_model.specs.WholeInstances.{IsWholeAt}
use Rattle.vrt_model.specs.declared.blif.Blif.{Blif}
use Rattle.vrt_model.specs.declared.circuit.Circuit.{Circuit}
use Rattle.vrt_model.specs.declared.circuit.FlatInstance.{FlatInstance}
use Rattle.vrt_model.specs.declared.whole.CellFacts.{CellFacts}
use Rattle.vrt_model.specs.declared.whole.Whole.{Whole}

-- the instance at a place
abbrev there_is : NumberedPlace → FlatInstance
there_is p = flat_instance p.at

-- a whole instance is as it is at the place of the one that it stands for
pub place_of_original : (cut : Cut) (blif : Blif) (facts : List CellFacts) (c : Circuit) (w : Whole) (y : FlatInstance) → IsCircuitWith cut blif facts c → IsInstanceOfWhole c (whole_instances cut) w y
    → (p : NumberedPlace) × Among (whole_places cut) p × IsWholeAt cut blif facts p w × (flat_instance p.at ≡ y)
place_of_original cut blif facts c w y circuit (j, here, is) =
    let place = zip_at_right (IsWholeAt cut blif facts) (whole_places cut) c.wholes j w circuit.wholes here in
    let original = at_map there_is (whole_places cut) j y is in
    (place.0, (j, place.1), place.2, ap there_is (one_at (whole_places cut) j place.0 original.0 place.1 original.1) ∙ original.2)

module _ (cut : Cut) (blif : Blif) (facts : List CellFacts) (i : ℕ) (p : NumberedPlace) (m depth : ℕ) (front back : List Place) (c whole_circuit : Circuit)
    (step : IsChainStep cut blif facts i p m depth front back c whole_circuit) (phase : ℕ) where
  abbrev olds : List NumberedPlace
  olds = whole_places (before cut i)

  abbrev news : List FlatInstance
  news = whole_instances (before cut (suc i))

  -- those of the step before, and the one at its place
  news_are : news ≡ map there_is (olds ++ p ∷ [])
  news_are = ap (map there_is) (one_more_place cut i p step.chosen.place step.chosen.chosen)

  own : At news (length olds) (flat_instance p.at)
  own = subst (λ (ys : List FlatInstance). At ys (length olds) (flat_instance p.at)) (sym news_are) (map_at there_is (olds ++ p ∷ []) (length olds) p (at_last olds p))

  old_stays : (j : ℕ) (y : FlatInstance) → At (whole_instances (before cut i)) j y → At news j y
  old_stays j y e =
      let from = at_map there_is olds j y e in
      subst (λ (ys : List FlatInstance). At ys j y) (sym news_are)
      (subst (λ (z : FlatInstance). At (map there_is (olds ++ p ∷ [])) j z) from.2 (map_at there_is (olds ++ p ∷ []) j from.0 (at_front olds (p ∷ []) j from.0 from.1)))

  -- it is no instance inside the cell of the step
  left : (w : Whole) (y : FlatInstance) → IsInstanceOfWhole c (whole_instances (before cut i)) w y → Among whole_circuit.instances y
  left w y is =
      let o = place_of_original (before cut i) blif facts c w y step.circuit is in
      let chosen = whole_chosen cut i o.0 o.1 in
      let other = chosen_instances_are_steps cut blif facts chosen.0 o.0 step.choice chosen.1.place chosen.1.chosen in
      subst (λ (z : FlatInstance). Among whole_circuit.instances z) o.3
      (subst (λ (ys : List FlatInstance). Among ys (flat_instance o.0.at)) (sym step.whole.instances) (shown cut blif facts step.choice chosen.0 o.0 other.0 other.1 other.2 (suc i)))

  pub has_one_more_original :
      HasOneMoreOriginal (phase_at cut.top.rules phase) c whole_circuit (whole_instances (before cut i)) news (x cut blif facts i p m depth front back c whole_circuit step phase) (flat_instance p.at)
  has_one_more_original = record {
    own = (length olds, x_last cut blif facts i p m depth front back c whole_circuit step phase, own);
    stay = λ w y is.
        let v = whole_stays cut blif facts i p m depth front back c whole_circuit step phase is.0 w is.1 in
        (v.0, (is.0, v.1, old_stays is.0 y is.2), v.2, left w y is);
  }
