-- When an instance is rightly chosen or left out.
use Rattle.std.proofs.Common.{◌≡◌, ℕ, suc, ◌++◌, Bool, true, false, List, ap, refl, subst, sym, ◌∙◌}
use Rattle.std.specs.Prelude.{◌↔◌}
use Rattle.std.proofs.lemmas.Bool.{false≢true}
use Rattle.checked_chain.specs.Arcs.{AreWholeOutputsApart}
use Rattle.replaced_instances.specs.Steps.{IsAllowedInstance}
use Rattle.whole_cells.specs.Entries.{IsAllowed}
use Rattle.whole_circuits.proofs.StepLaws.{held_from, held_to, may_be_whole, plain_from, plain_to}
use Rattle.whole_circuits.specs.Acyclic.{AreAcyclic}
use Rattle.whole_circuits.specs.Outputs.{AreOpen, own_outputs}
use Rattle.whole_circuits.specs.Steps.{Passes}
use Rattle.vrt_model.proofs.Lists.{one_at}
use Rattle.vrt_model.specs.Checked.{IsCircuitWith, MayBeWhole, before, with_one}
use Rattle.vrt_model.specs.CheckedParts.{checked_devices}
use Rattle.vrt_model.specs.Cut.{Cut, NumberedPlace, is_inside_whole, numbered_places}
use Rattle.vrt_model.specs.Inputs.{AreRules}
use Rattle.vrt_model.specs.Lists.{Among, At}
use Rattle.vrt_model.specs.PairedPorts.{Missing, Model, Paired, Skipped, paired_model}
use Rattle.vrt_model.specs.Unsupported.{comparison_of}
use Rattle.vrt_model.specs.WholeInstances.{OutputAt, all_outputs, driven_pins, is_output_allowed, outputs_of_place}
use Rattle.vrt_model.specs.declared.blif.Blif.{Blif}
use Rattle.vrt_model.specs.declared.circuit.Circuit.{Circuit}
use Rattle.vrt_model.specs.declared.whole.CellFacts.{CellFacts}
use Rattle.substitute.proofs.ChosenLaws.{front_is_all, one_more_brings_its_own, outputs_by}
use Rattle.substitute.specs.Chosen.{IsRightAt, IsRightly, MayBeChosen}
use Rattle.substitute.specs.Right.{AcyclicIsChosen, AreItsOutputsOpen, ClosedIsLeftOut, InsideIsLeftOut, IsNext, OpenIsChosen, RefusedIsLeftOut}

-- it suffices to look at the one place
module _ (cut : Cut) (blif : Blif) (facts : List CellFacts) (i : ℕ) (p : NumberedPlace) (place : At (numbered_places cut.top) (suc i) p) (asked chosen : Bool) where
  at_place : IsRightAt asked cut blif facts i chosen p → IsRightly asked cut blif facts i chosen
  at_place right q there = subst (λ (x : NumberedPlace). IsRightAt asked cut blif facts i chosen x) (one_at (numbered_places cut.top) (suc i) p q place there) right

-- an instance that may be chosen is allowed
pub allowed_of : (asked : Bool) (cut : Cut) (blif : Blif) (facts : List CellFacts) (i : ℕ) (p : NumberedPlace) (m : ℕ) → MayBeChosen asked cut blif facts i p m → IsAllowedInstance cut blif facts i p m
allowed_of true cut blif facts i p m may = record { paired = may.paired; cell = may.cell; cared = may.cared; plain = may.plain; allowed = may.allowed }
allowed_of false cut blif facts i p m may = may

pub inside_is_left_out : InsideIsLeftOut
inside_is_left_out asked cut blif facts i p place inside =
    at_place cut blif facts i p place asked false (λ e. absurd (false≢true e), λ right. absurd (false≢true (sym right.0 ∙ inside)))

pub refused_is_left_out : RefusedIsLeftOut
refused_is_left_out asked cut blif facts i p place refused =
    at_place cut blif facts i p place asked false
    (λ e. absurd (false≢true e), λ right. (let may = allowed_of asked cut blif facts i p right.1.0 right.1.1 in absurd (refused right.1.0 may.paired (may.cell, may.cared))))

module _ (cut : Cut) (blif : Blif) (facts : List CellFacts) (i : ℕ) (p : NumberedPlace) (m : ℕ) (flat : Circuit) (is : IsNext cut blif i p m flat) where
  model_is : (n : ℕ) → paired_model cut.top.design blif cut.top.rules p.at.cell ≡ Model n → n ≡ m
  model_is n paired = let model : Paired → ℕ = λ x. elim x [ Model j ↦ j | Skipped ↦ 0 | Missing ↦ 0 ] in ap model (sym paired ∙ is.paired)

  pub with_model : (n : ℕ) → IsAllowedInstance cut blif facts i p n → IsAllowedInstance cut blif facts i p m
  with_model n may = subst (λ (j : ℕ). IsAllowedInstance cut blif facts i p j) (model_is n may.paired) may

  abbrev own : List OutputAt
  own = own_outputs p.number (driven_pins facts (comparison_of cut.top.design blif cut.top.rules p.at.cell m) p.at)

  own_is : outputs_of_place cut.top blif facts p ≡ own
  own_is = ap (outputs_by cut.top blif facts p) is.paired

  pub open_of : IsAllowedInstance cut blif facts i p m → AreItsOutputsOpen cut blif facts i p m flat
  open_of may = record {
    plain = λ o on.
        (let there = may.plain o (subst (λ (os : List OutputAt). Among os o) (sym own_is) on) in
        (plain_to (with_one cut i) blif facts flat is.flat_is o.pin.net.0 there.0, λ held. there.1 (held_from (with_one cut i) blif facts flat is.flat_is o.pin.net.0 held)));
    allowed = λ o on.
        subst (λ (os : List OutputAt). is_output_allowed (checked_devices (with_one cut i)) os o ≡ true) (one_more_brings_its_own cut blif facts i m p is.none is.place is.paired)
        (may.allowed o (subst (λ (os : List OutputAt). Among os o) (sym own_is) on));
  }

  closed : (asked : Bool) → ¬ AreItsOutputsOpen cut blif facts i p m flat → IsRightly asked cut blif facts i false
  closed asked shut =
      at_place cut blif facts i p is.place asked false
      (λ e. absurd (false≢true e), λ right. absurd (shut (open_of (with_model right.1.0 (allowed_of asked cut blif facts i p right.1.0 right.1.1)))))

  -- with open outputs it is allowed
  pub allowed : IsAllowed cut.top blif facts p.at.cell m → AreItsOutputsOpen cut blif facts i p m flat → IsAllowedInstance cut blif facts i p m
  allowed cell outputs = record {
    paired = is.paired;
    cell = cell.0;
    cared = cell.1;
    plain = λ o on.
        (let free = outputs.plain o (subst (λ (os : List OutputAt). Among os o) own_is on) in
        (plain_from (with_one cut i) blif facts flat is.flat_is o.pin.net.0 free.0, λ held. free.1 (held_to (with_one cut i) blif facts flat is.flat_is o.pin.net.0 held)));
    allowed = λ o on.
        subst (λ (os : List OutputAt). is_output_allowed (checked_devices (with_one cut i)) os o ≡ true) (sym (one_more_brings_its_own cut blif facts i m p is.none is.place is.paired))
        (outputs.allowed o (subst (λ (os : List OutputAt). Among os o) own_is on));
  }

  front : before cut i ≡ cut
  front = front_is_all cut i is.none

  abbrev OpenIn : Cut → Type 0
  OpenIn low = AreOpen flat (checked_devices (with_one low i)) (all_outputs low blif facts ++ own) own

  module _ (circuit : Circuit) (free : Bool) (rules : AreRules cut.top.rules) (outside : is_inside_whole cut p.at ≡ false)
      (cell : IsAllowed cut.top blif facts p.at.cell m) (outputs : AreItsOutputsOpen cut blif facts i p m flat)
      (flat_acyclic : AreAcyclic flat cut.top.rules.phases) (made : IsCircuitWith (with_one cut i) blif facts circuit) (apart : AreWholeOutputsApart (with_one cut i) blif)
      (tells : (free ≡ true) ↔ AreAcyclic circuit cut.top.rules.phases) where
    tests : Passes cut blif facts i p m flat circuit ↔ MayBeWhole (before cut i) blif facts i p m
    tests =
        may_be_whole cut blif facts i p m flat circuit is.place is.paired rules is.flat_is
        (subst (λ (low : Cut). IsCircuitWith (with_one low i) blif facts circuit) (sym front) made) (subst (λ (low : Cut). AreWholeOutputsApart (with_one low i) blif) (sym front) apart)

    right : IsRightly true cut blif facts i free
    right =
        at_place cut blif facts i p is.place true free (
          λ e. (
            outside,
            (
              m,
              subst (λ (low : Cut). MayBeWhole low blif facts i p m) front
                  (tests.0 (record { cell = cell.0; cared = cell.1; outputs = subst OpenIn (sym front) outputs; acyclic = tells.0 e; flat_acyclic = flat_acyclic })),
            ),
          ),
          λ r. tells.1 (tests.1 (subst (λ (low : Cut). MayBeWhole low blif facts i p m) (sym front) (subst (λ (j : ℕ). MayBeWhole cut blif facts i p j) (model_is r.1.0 r.1.1.paired) r.1.1))).acyclic,
        )

pub closed_is_left_out : ClosedIsLeftOut
closed_is_left_out asked cut blif facts i p m flat is shut = closed cut blif facts i p m flat is asked shut

pub open_is_chosen : OpenIsChosen
open_is_chosen cut blif facts i p m flat is outside cell outputs =
    at_place cut blif facts i p is.place false true (λ e. (outside, (m, allowed cut blif facts i p m flat is cell outputs)), λ r. refl)

pub acyclic_is_chosen : AcyclicIsChosen
acyclic_is_chosen cut blif facts i p m flat circuit free is rules outside cell outputs flat_acyclic made apart tells =
    right cut blif facts i p m flat is circuit free rules outside cell outputs flat_acyclic made apart tells
