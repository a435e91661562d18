-- Places inside whole instances, where one more instance is whole.
use Rattle.std.proofs.Common.{◌≡◌, ℕ, zero, suc, ◌<◌, ◌≤◌, ◌&&◌, ◌||◌, Bool, true, false, List, arith, ap, refl, sym, ◌∙◌, inl, inr}
use Rattle.std.specs.Prelude.{◌==◌}
use Rattle.std.proofs.lemmas.Bool.{and_right, cases_Bool}
use Rattle.std.proofs.lemmas.Bool.Decides.{nat_tests}
use Rattle.checked_chain.proofs.ChoiceLaws.{any_within, numbered_at}
use Rattle.checked_chain.proofs.OrderLaws.{outer_comes_first}
use Rattle.whole_circuits.specs.Insides.{AreMarkedBefore}
use Rattle.vrt_model.specs.Checked.{with_one}
use Rattle.vrt_model.specs.Cut.{Cut, NumberedPlace, is_inside, is_inside_whole, is_whole, numbered_places}
use Rattle.vrt_model.specs.Inputs.{IsDesign}
use Rattle.vrt_model.specs.Lists.{Among, At}
use Rattle.vrt_model.specs.Unrolled.{Place, all_places}

or_none : (b : Bool) → (b || false) ≡ b
or_none true = refl
or_none false = refl

whole_before : (choice : ℕ → Bool) (i n : ℕ) → n < suc i → is_whole (λ j. choice j || (i == j)) n ≡ is_whole choice n
whole_before choice i zero lt = refl
whole_before choice i (suc k) lt = let off : (i == k) ≡ false = grind (arith, nat_tests, lt) in ap (λ (b : Bool). choice k || b) off ∙ or_none (choice k)

-- a place up to that of the instance is inside the same ones
inside_before : (cut : Cut) (i n : ℕ) (at : Place) → IsDesign cut.top.design → At (all_places cut.top) n at → n ≤ suc i → is_inside_whole (with_one cut i) at ≡ is_inside_whole cut at
inside_before cut i n at is here le =
    any_within (λ (o : NumberedPlace). is_whole (with_one cut i).choice o.number && is_inside at o.at) (λ (o : NumberedPlace). is_whole cut.choice o.number && is_inside at o.at) (numbered_places cut.top) each
  where
    each : (o : NumberedPlace) → Among (numbered_places cut.top) o → (is_whole (with_one cut i).choice o.number && is_inside at o.at) ≡ (is_whole cut.choice o.number && is_inside at o.at)
    each o m =
        elim (cases_Bool (is_inside at o.at)) [
          | inl e ↦ (
              let there = numbered_at cut.top m.0 o m.1 in
              let lt = outer_comes_first cut.top n m.0 at o.at is here there.1 e in
              let number = there.0 in
              ap (λ (b : Bool). b && is_inside at o.at) (whole_before cut.choice i o.number (omega (arith, lt, le, number))))
          | inr e ↦ and_right (is_whole (with_one cut i).choice o.number) (is_inside at o.at) e ∙ sym (and_right (is_whole cut.choice o.number) (is_inside at o.at) e)
        ]

-- so the marks up to there stay
pub marks_stay : (cut : Cut) (i : ℕ) (marks : List Bool) → IsDesign cut.top.design → AreMarkedBefore cut (suc (suc i)) marks → AreMarkedBefore (with_one cut i) (suc (suc i)) marks
marks_stay cut i marks is marked =
    let count = marked.count in
    record { count = count; are = λ n at lt here. marked.are n at lt here ∙ sym (inside_before cut i n at is here (omega (arith, lt, count))) }
