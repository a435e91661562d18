-- Instances that are chosen one by one.
use Rattle.std.proofs.Common.{◌≡◌, ℕ, suc, ◌<◌, ◌&&◌, Bool, true, false, List, arith, ap, subst, sym, ◌∙◌, inl, inr}
use Rattle.std.specs.Prelude.{◌↔◌, nat_lt}
use Rattle.std.proofs.lemmas.Bool.{and_right, cases_lt}
use Rattle.std.proofs.lemmas.Bool.Decides.{nat_tests}
use Rattle.std.proofs.lemmas.Option.{slice_get_within}
use Rattle.checked_chain.proofs.ChoiceLaws.{numbered_at}
use mathlib.Core.Path.{fun_ext}
use Rattle.whole_circuits.proofs.StepLaws.{may_be_whole}
use Rattle.whole_circuits.specs.Chosen.{AllAreDecided, DecidedGrow, IsDecided, TestsTell}
use Rattle.vrt_model.specs.Checked.{MayBeWhole, before}
use Rattle.vrt_model.specs.Cut.{Cut, NumberedPlace, is_inside_whole, numbered_places}
use Rattle.vrt_model.specs.Lists.{At}
use Rattle.vrt_model.specs.Unrolled.{Top}
use Rattle.vrt_model.specs.declared.blif.Blif.{Blif}
use Rattle.vrt_model.specs.declared.whole.CellFacts.{CellFacts}

pub tests_tell : TestsTell
tests_tell cut blif facts i p m flat d here paired rules flat_is circuit apart = may_be_whole cut blif facts i p m flat d here paired rules flat_is circuit apart

-- the instances before a place are the same
module _ (t : Top) (one other : ℕ → Bool) (i : ℕ) (same : (j : ℕ) → j < i → other j ≡ one j) where
  same_below : (j : ℕ) → (other j && nat_lt j i) ≡ (one j && nat_lt j i)
  same_below j =
      elim (cases_lt j i) [
        | inl lt ↦ ap (λ (b : Bool). b && nat_lt j i) (same j lt)
        | inr ge ↦ let past : nat_lt j i ≡ false = grind (arith, nat_tests, ge) in and_right (other j) (nat_lt j i) past ∙ sym (and_right (one j) (nat_lt j i) past)
      ]

  before_same : before (record { top = t; choice = other }) i ≡ before (record { top = t; choice = one }) i
  before_same = ap (λ (f : ℕ → Bool). let cut : Cut = record { top = t; choice = f } in cut) (fun_ext same_below)

-- what is decided of a place rests on the instances up to it
module _ (blif : Blif) (facts : List CellFacts) (i : ℕ) where
  abbrev Decides : Cut → Cut → Type 0
  Decides cut low =
      (p : NumberedPlace) → At (numbered_places cut.top) (suc i) p
      → (cut.choice i ≡ true) ↔ ((is_inside_whole low p.at ≡ false) × ((m : ℕ) × MayBeWhole low blif facts i p m))

  decided_same : (t : Top) (one other : ℕ → Bool) → ((j : ℕ) → j < suc i → other j ≡ one j)
      → IsDecided (record { top = t; choice = one }) blif facts i → IsDecided (record { top = t; choice = other }) blif facts i
  decided_same t one other same is =
      subst (λ (low : Cut). Decides (record { top = t; choice = other }) low) (sym (before_same t one other i (λ j lt. same j (omega (arith, lt)))))
      (λ p here. subst (λ (b : Bool). (b ≡ true) ↔ ((is_inside_whole (before (record { top = t; choice = one }) i) p.at ≡ false) × ((m : ℕ) × MayBeWhole (before (record { top = t; choice = one }) i) blif facts i p m)))
      (sym (same i (omega arith))) (is p here))

pub decided_grow : DecidedGrow
decided_grow cut other blif facts i top same decided next j lt =
    elim (cases_lt j i) [
      | inl low ↦ earlier j low
      | inr high ↦ subst (λ (k : ℕ). IsDecided other blif facts k) (let last : i ≡ j = omega (arith, lt, high) in last) next
    ]
  where
    earlier : (k : ℕ) → k < i → IsDecided other blif facts k
    earlier k low =
        subst (λ (t : Top). IsDecided (record { top = t; choice = other.choice }) blif facts k) (sym top)
        (decided_same blif facts k cut.top cut.choice other.choice (λ n under. same n (omega (arith, under, low))) (decided k (omega (arith, low))))

pub all_are_decided : AllAreDecided
all_are_decided cut blif facts decided i p here = decided i (slice_get_within _ (suc i) p.at (numbered_at cut.top (suc i) p here).1) p here
