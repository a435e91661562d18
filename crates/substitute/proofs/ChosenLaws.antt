-- Instances that are chosen one after the other.
use Rattle.std.proofs.Common.{◌≡◌, ℕ, suc, ◌+◌, ◌<◌, ◌≤◌, ◌&&◌, ◌||◌, ◌++◌, Bool, true, false, List, [], arith, ap, refl, subst, sym, ◌∙◌, inl, inr}
use Rattle.std.specs.Prelude.{◌==◌, nat_lt}
use Rattle.std.specs.List.{enumerate_from}
use Rattle.std.proofs.lemmas.Bool.{and_right, cases_lt, eqb-true, false_from_ne_true, false≢true}
use Rattle.std.proofs.lemmas.Bool.Decides.{nat_tests}
use Rattle.std.proofs.lemmas.Option.{none-some}
use mathlib.Core.Path.{fun_ext}
use Rattle.whole_circuits.proofs.StepLaws.{outputs_with}
use Rattle.whole_circuits.specs.Outputs.{own_outputs, output_at}
use Rattle.vrt_model.proofs.Filtered.{filter_among}
use Rattle.vrt_model.proofs.Members.{among_flat_map, among_map}
use Rattle.vrt_model.specs.Checked.{before, with_one}
use Rattle.vrt_model.specs.Cut.{Cut, NumberedPlace, is_whole, numbered_places, whole_places}
use Rattle.vrt_model.specs.Lists.{Among, At, mark_at}
use Rattle.vrt_model.specs.PairedPorts.{Model, Missing, Paired, Skipped, paired_model}
use Rattle.vrt_model.specs.Unrolled.{Top}
use Rattle.vrt_model.specs.Unsupported.{comparison_of}
use Rattle.vrt_model.specs.WholeInstances.{OutputAt, all_outputs, driven_pins, outputs_of_place}
use Rattle.vrt_model.specs.declared.blif.Blif.{Blif}
use Rattle.vrt_model.specs.declared.whole.CellFacts.{CellFacts}
use Rattle.substitute.specs.Chosen.{AreRightly, FrontIsAll, IsRightAt, IsRightly, MarksOneMore, NoneFrom, OneMoreBringsItsOwn, OneMoreIsDecided, OutputsStandApart, MarkedIsWithOne, cut_of}

and_one : (b : Bool) → (b && true) ≡ b
and_one true = refl
and_one false = refl

pub front_is_all : FrontIsAll
front_is_all cut i none = ap (λ (f : ℕ → Bool). let one : Cut = record { top = cut.top; choice = f } in one) (fun_ext same)
  where
    same : (j : ℕ) → (cut.choice j && nat_lt j i) ≡ cut.choice j
    same j =
        elim (cases_lt j i) [
          | inl lt ↦ let low : nat_lt j i ≡ true = grind (arith, nat_tests, lt) in ap (λ (b : Bool). cut.choice j && b) low ∙ and_one (cut.choice j)
          | inr ge ↦ let off = none j ge in ap (λ (b : Bool). b && nat_lt j i) off ∙ sym off
        ]

-- the outputs of a place, by what its cell pairs with
abbrev pub outputs_by : Top → Blif → List CellFacts → NumberedPlace → Paired → List OutputAt
outputs_by t blif facts p paired =
    elim paired [ Model m ↦ own_outputs p.number (driven_pins facts (comparison_of t.design blif t.rules p.at.cell m) p.at) | _ ↦ [] ]

instance_by : (t : Top) (blif : Blif) (facts : List CellFacts) (p : NumberedPlace) (paired : Paired) (o : OutputAt) → Among (outputs_by t blif facts p paired) o → o.instance ≡ p.number
instance_by t blif facts p (Model m) o among =
    let from = among_map (output_at p.number) (enumerate_from 0 (driven_pins facts (comparison_of t.design blif t.rules p.at.cell m) p.at)) o among in
    sym (ap (λ (x : OutputAt). x.instance) from.2)
instance_by t blif facts p Skipped o among = absurd (none-some o among.1)
instance_by t blif facts p Missing o among = absurd (none-some o among.1)

pub outputs_stand_apart : OutputsStandApart
outputs_stand_apart cut blif facts i o none there =
    let from = among_flat_map (outputs_of_place cut.top blif facts) (whole_places cut) o there in
    let whole = (filter_among (λ (x : NumberedPlace). is_whole cut.choice x.number) (numbered_places cut.top) from.0 from.1).1 in
    let is = instance_by cut.top blif facts from.0 (paired_model cut.top.design blif cut.top.rules from.0.at.cell) o from.2 in
    false_from_ne_true (o.instance == suc i)
    (λ e. false≢true (sym (none i (omega arith)) ∙ subst (λ (n : ℕ). is_whole cut.choice n ≡ true) (sym is ∙ eqb-true o.instance (suc i) e) whole))

pub one_more_brings_its_own : OneMoreBringsItsOwn
one_more_brings_its_own cut blif facts i m p none here paired =
    subst (λ (low : Cut). all_outputs (with_one low i) blif facts ≡ all_outputs low blif facts ++ own_outputs p.number (driven_pins facts (comparison_of cut.top.design blif cut.top.rules p.at.cell m) p.at))
    (front_is_all cut i none)
    (outputs_with cut i p here blif facts
    ∙ ap (λ (x : Paired). all_outputs (before cut i) blif facts ++ outputs_by cut.top blif facts p x) paired)

-- ---- one more instance is decided

or_none : (b c : Bool) → (b || (c && false)) ≡ b
or_none true true = refl
or_none true false = refl
or_none false true = refl
or_none false false = refl

or_both : (b c : Bool) → b ≡ false → (b || (c && true)) ≡ c
or_both true c e = absurd (false≢true (sym e))
or_both false true e = refl
or_both false false e = refl

module _ (asked : Bool) (t : Top) (blif : Blif) (facts : List CellFacts) (i : ℕ) (old new : List Bool) (chosen : Bool) (none : NoneFrom (cut_of t old) i) (more : MarksOneMore old new i chosen)
    (rightly : IsRightly asked (cut_of t old) blif facts i chosen) (decided : AreRightly asked (cut_of t old) blif facts (suc i)) where
  apart : (n : ℕ) → (n ≡ suc i → ⊥) → mark_at new n ≡ mark_at old n
  apart n ne =
      let off : (n == suc i) ≡ false = grind (arith, nat_tests, ne) in more n ∙ ap (λ (b : Bool). mark_at old n || (chosen && b)) off ∙ or_none (mark_at old n) chosen

  here_is : mark_at new (suc i) ≡ chosen
  here_is =
      let on : (suc i == suc i) ≡ true = grind (arith, nat_tests) in
      more (suc i) ∙ ap (λ (b : Bool). mark_at old (suc i) || (chosen && b)) on ∙ or_both (mark_at old (suc i)) chosen (none i (omega arith))

  none_now : NoneFrom (cut_of t new) (suc i)
  none_now j le = apart (suc j) (λ e. omega (arith, le, e)) ∙ none j (omega (arith, le))

  -- those before an instance up to this one are the same
  front_at : (j : ℕ) → j ≤ i → before (cut_of t new) j ≡ before (cut_of t old) j
  front_at j le = ap (λ (f : ℕ → Bool). let one : Cut = record { top = t; choice = f } in one) (fun_ext same)
    where
      same : (k : ℕ) → (mark_at new (suc k) && nat_lt k j) ≡ (mark_at old (suc k) && nat_lt k j)
      same k =
          elim (cases_lt k j) [
            | inl lt ↦ ap (λ (b : Bool). b && nat_lt k j) (apart (suc k) (λ e. omega (arith, lt, le, e)))
            | inr ge ↦
                let high : nat_lt k j ≡ false = grind (arith, nat_tests, ge) in and_right (mark_at new (suc k)) (nat_lt k j) high ∙ sym (and_right (mark_at old (suc k)) (nat_lt k j) high)
          ]

  abbrev IsRightNow : ℕ → Type 0
  IsRightNow j = (p : NumberedPlace) → At (numbered_places t) (suc j) p → IsRightAt asked (before (cut_of t new) j) blif facts j (mark_at new (suc j)) p

  -- what is right besides some instances is so besides the same ones
  right_now : (j : ℕ) (low : Cut) (was : Bool) (p : NumberedPlace) → before (cut_of t new) j ≡ low → mark_at new (suc j) ≡ was
      → IsRightAt asked low blif facts j was p → IsRightAt asked (before (cut_of t new) j) blif facts j (mark_at new (suc j)) p
  right_now j low was p same mark right =
      subst (λ (b : Bool). IsRightAt asked (before (cut_of t new) j) blif facts j b p) (sym mark)
      (subst (λ (x : Cut). IsRightAt asked x blif facts j was p) (sym same) right)

  decided_here : IsRightNow i
  decided_here p there =
      right_now i (cut_of t old) chosen p (front_at i (omega arith) ∙ front_is_all (cut_of t old) i none) here_is (rightly p there)

  decided_before : (j : ℕ) → j < i → IsRightNow j
  decided_before j lt p there =
      right_now j (before (cut_of t old) j) (mark_at old (suc j)) p (front_at j (omega (arith, lt))) (apart (suc j) (λ e. omega (arith, lt, e))) (decided j (omega (arith, lt)) p there)

  decided_now : AreRightly asked (cut_of t new) blif facts (suc i + 1)
  decided_now j lt =
      elim (cases_lt j i) [
        | inl low ↦ decided_before j low
        | inr high ↦ subst IsRightNow (let last : i ≡ j = omega (arith, lt, high) in last) decided_here
      ]

pub one_more_is_decided : OneMoreIsDecided
one_more_is_decided asked t blif facts i old new chosen none more rightly decided =
    (none_now asked t blif facts i old new chosen none more rightly decided, decided_now asked t blif facts i old new chosen none more rightly decided)

pub marked_is_with_one : MarkedIsWithOne
marked_is_with_one t i old new more = ap (λ (f : ℕ → Bool). let one : Cut = record { top = t; choice = f } in one) (fun_ext same)
  where
    same : (j : ℕ) → mark_at new (suc j) ≡ (mark_at old (suc j) || (i == j))
    same j = let turned : (suc j == suc i) ≡ (i == j) = grind (arith, nat_tests) in more (suc j) ∙ ap (λ (b : Bool). mark_at old (suc j) || b) turned
