-- An instance that is tried besides those that are decided.
use Rattle.std.proofs.Common.{◌≡◌, ℕ, suc, ◌<◌, ◌≤◌, ◌&&◌, ◌||◌, Bool, true, false, List, arith, ap, refl, subst, sym, ◌∙◌, inl, inr}
use Rattle.std.specs.Prelude.{◌==◌, ◌⊎◌, nat_lt}
use Rattle.std.proofs.lemmas.Bool.{and_right, cases_lt, eqb-true}
use Rattle.std.proofs.lemmas.Bool.Decides.{nat_tests}
use mathlib.Core.Path.{fun_ext}
use Rattle.replaced_instances.specs.Steps.{AreAllowed, IsAllowedInstance}
use Rattle.vrt_model.proofs.Lists.{one_at}
use Rattle.vrt_model.specs.Checked.{before, with_one}
use Rattle.vrt_model.specs.Cut.{Cut, NumberedPlace, is_inside_whole, numbered_places}
use Rattle.vrt_model.specs.Lists.{At}
use Rattle.vrt_model.specs.declared.blif.Blif.{Blif}
use Rattle.vrt_model.specs.declared.circuit.Circuit.{Circuit}
use Rattle.vrt_model.specs.declared.whole.CellFacts.{CellFacts}
use Rattle.substitute.proofs.ChosenLaws.{front_is_all}
use Rattle.substitute.proofs.RightLaws.{allowed, allowed_of}
use Rattle.substitute.specs.Sound.{IsOpenBeside, OpenAreAllowed}

or_off : (b c : Bool) → c ≡ false → (b || c) ≡ b
or_off true c e = refl
or_off false c e = e

module _ (cut : Cut) (blif : Blif) (facts : List CellFacts) (i : ℕ) (p : NumberedPlace) (m : ℕ) (flat : Circuit) (asked : Bool) (is : IsOpenBeside asked cut blif facts i p m flat) where
  abbrev later : Cut
  later = with_one cut i

  -- those before an instance up to the one that is tried are the same
  front_same : (j : ℕ) → j ≤ i → before later j ≡ before cut j
  front_same j le = ap (λ (f : ℕ → Bool). let one : Cut = record { top = cut.top; choice = f } in one) (fun_ext same)
    where
      same : (k : ℕ) → ((cut.choice k || (i == k)) && nat_lt k j) ≡ (cut.choice k && nat_lt k j)
      same k =
          elim (cases_lt k j) [
            | inl lt ↦
                let off : (i == k) ≡ false = grind (arith, nat_tests, lt, le) in ap (λ (b : Bool). b && nat_lt k j) (or_off (cut.choice k) (i == k) off)
            | inr ge ↦
                let high : nat_lt k j ≡ false = grind (arith, nat_tests, ge) in
                and_right (cut.choice k || (i == k)) (nat_lt k j) high ∙ sym (and_right (cut.choice k) (nat_lt k j) high)
          ]

  abbrev Allowed : Cut → ℕ → NumberedPlace → Type 0
  Allowed low j q = (is_inside_whole low q.at ≡ false) × ((n : ℕ) × IsAllowedInstance low blif facts j q n)

  -- one that was decided
  earlier : (j : ℕ) (q : NumberedPlace) → At (numbered_places cut.top) (suc j) q → j < i → cut.choice j ≡ true → Allowed (before cut j) j q
  earlier j q there lt chosen =
      let known = (is.decided j (omega (arith, lt)) q there).0 chosen in
      (known.0, (known.1.0, allowed_of asked (before cut j) blif facts j q known.1.0 known.1.1))

  -- the one that is tried
  tried : Allowed cut i p
  tried = (
    is.outside,
    (m, allowed cut blif facts i p m flat (record { none = is.none; place = is.place; paired = is.paired; flat_is = is.flat_is }) is.cell is.outputs),
  )

  chosen_before : (j : ℕ) → (cut.choice j || (i == j)) ≡ true → (j < i) × (cut.choice j ≡ true) ⊎ (i ≡ j)
  chosen_before j e =
      elim (cases_lt j i) [
        | inl lt ↦ inl (lt, let off : (i == j) ≡ false = grind (arith, nat_tests, lt) in sym (or_off (cut.choice j) (i == j) off) ∙ e)
        | inr ge ↦ inr (eqb-true i j (sym (ap (λ (b : Bool). b || (i == j)) (is.none j ge)) ∙ e))
      ]

  pub allowed_all : AreAllowed later blif facts
  allowed_all j q there chosen =
      elim (chosen_before j chosen) [
        | inl old ↦ let lt = old.0 in subst (λ (low : Cut). Allowed low j q) (sym (front_same j (omega (arith, lt)))) (earlier j q there old.0 old.1)
        | inr same ↦
            subst (λ (k : ℕ). Allowed (before later k) k q) same
            (subst (λ (low : Cut). Allowed low i q) (sym (front_same i (omega arith) ∙ front_is_all cut i is.none))
            (subst (λ (x : NumberedPlace). Allowed cut i x) (one_at (numbered_places cut.top) (suc i) p q is.place (subst (λ (k : ℕ). At (numbered_places cut.top) (suc k) q) (sym same) there)) tried))
      ]

pub open_are_allowed : OpenAreAllowed
open_are_allowed asked cut blif facts i p m flat is = allowed_all cut blif facts i p m flat asked is
