-- One instance more in a choice, or none.
use Rattle.std.proofs.Common.{◌≡◌, ℕ, suc, ◌≤◌, ◌<◌, ◌&&◌, ◌||◌, Bool, true, false, arith, subst, sym, refl, ◌∙◌, ap, ap₂, inl, inr}
use Rattle.std.specs.Prelude.{nat_lt, ◌==◌}
use Rattle.std.proofs.lemmas.Bool.{and_from, and_left, cases_lt, or_right}
use Rattle.std.proofs.lemmas.Bool.Decides.{nat_tests}
use mathlib.Core.Path.{fun_ext}
use Rattle.checked_chain.specs.Steps.{NoneMoreIsSame, OneMoreIsNext}
use Rattle.vrt_model.specs.Cut.{Cut}

below : (j i : ℕ) → j < i → nat_lt j i ≡ true
below j i lt = grind (arith, nat_tests, lt)

not_below : (j i : ℕ) → i ≤ j → nat_lt j i ≡ false
not_below j i le = grind (arith, nat_tests, le)

apart : (i j : ℕ) → (i ≡ j → ⊥) → (i == j) ≡ false
apart i j ne = grind (arith, nat_tests, ne)

-- three tests of a number, where it is less or greater than the one that comes in
by_tests : (a p q e b : Bool) → p ≡ b → q ≡ b → e ≡ false → ((a && p) || e) ≡ (a && q)
by_tests true p q e b hp hq he = ap₂ (λ (x y : Bool). x || y) (hp ∙ sym hq) he ∙ or_none q
  where
    or_none : (x : Bool) → (x || false) ≡ x
    or_none true = refl
    or_none false = refl
by_tests false p q e b hp hq he = he

one_more : (choice : ℕ → Bool) (i j : ℕ) → choice i ≡ true → ((choice j && nat_lt j i) || (i == j)) ≡ (choice j && nat_lt j (suc i))
one_more choice i j chosen =
    elim (cases_lt j i) [
      | inl lt ↦ by_tests (choice j) (nat_lt j i) (nat_lt j (suc i)) (i == j) true (below j i lt) (below j (suc i) (omega (arith, lt))) (apart i j (λ e. omega (arith, lt, e)))
      | inr le ↦ elim (cases_lt i j) [
        | inl lt ↦ by_tests (choice j) (nat_lt j i) (nat_lt j (suc i)) (i == j) false (not_below j i le) (not_below j (suc i) (omega (arith, lt))) (apart i j (λ e. omega (arith, lt, e)))
        | inr ge ↦ here (omega (arith, le, ge))
      ]
    ]
  where
    itself : (i == i) ≡ true
    itself = grind (arith, nat_tests)

    here : i ≡ j → ((choice j && nat_lt j i) || (i == j)) ≡ (choice j && nat_lt j (suc i))
    here e =
        subst (λ (k : ℕ). ((choice k && nat_lt k i) || (i == k)) ≡ (choice k && nat_lt k (suc i))) e
        (or_right (choice i && nat_lt i i) (i == i) itself ∙ sym (and_from (choice i) (nat_lt i (suc i)) chosen (below i (suc i) (omega arith))))

none_more : (choice : ℕ → Bool) (i j : ℕ) → choice i ≡ false → (choice j && nat_lt j (suc i)) ≡ (choice j && nat_lt j i)
none_more choice i j not_chosen =
    elim (cases_lt j i) [
      | inl lt ↦ ap (λ (b : Bool). choice j && b) (below j (suc i) (omega (arith, lt)) ∙ sym (below j i lt))
      | inr le ↦ elim (cases_lt i j) [
        | inl lt ↦ ap (λ (b : Bool). choice j && b) (not_below j (suc i) (omega (arith, lt)) ∙ sym (not_below j i le))
        | inr ge ↦ here (omega (arith, le, ge))
      ]
    ]
  where
    here : i ≡ j → (choice j && nat_lt j (suc i)) ≡ (choice j && nat_lt j i)
    here e =
        subst (λ (k : ℕ). (choice k && nat_lt k (suc i)) ≡ (choice k && nat_lt k i)) e
        (and_left (choice i) (nat_lt i (suc i)) not_chosen ∙ sym (and_left (choice i) (nat_lt i i) not_chosen))

pub one_more_is_next : OneMoreIsNext
one_more_is_next cut i chosen =
    ap (λ (f : ℕ → Bool). let one : Cut = record cut { choice = f } in one) (fun_ext (λ j. one_more cut.choice i j chosen))

pub none_more_is_same : NoneMoreIsSame
none_more_is_same cut i not_chosen =
    ap (λ (f : ℕ → Bool). let one : Cut = record cut { choice = f } in one) (fun_ext (λ j. none_more cut.choice i j not_chosen))
