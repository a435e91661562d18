-- What is found in a list of places, and in a longer one in the same order.
use Rattle.std.proofs.Common.{refl, ◌≡◌, ℕ, ◌&&◌, true, List, [], ◌∷◌, arith, inl, inr}
use Rattle.std.specs.Prelude.{nat_eq, nat_lt}
use Rattle.std.proofs.lemmas.Bool.{and_from, and_parts, eq-eqb, or_right, eqb-true, false≢true, ltb-true, or_cases}
use Rattle.vrt_model.specs.Places.{comes_before}

-- of two lists of numbers at most one comes before the other
pub not_both : (xs ys : List ℕ) → comes_before xs ys ≡ true → comes_before ys xs ≡ true → ⊥
not_both [] ys e f = false≢true e
not_both (x ∷ xs) [] e f = false≢true e
not_both (x ∷ xs) (y ∷ ys) e f =
    elim (or_cases (nat_lt x y) (nat_eq x y && comes_before xs ys) e) [
      | inl low ↦ elim (or_cases (nat_lt y x) (nat_eq y x && comes_before ys xs) f) [
        | inl high ↦ (let one = ltb-true x y low in let two = ltb-true y x high in omega (arith, one, two))
        | inr same ↦ (let one = ltb-true x y low in let two = eqb-true y x (and_parts (nat_eq y x) (comes_before ys xs) same).0 in omega (arith, one, two))
      ]
      | inr same ↦ elim (or_cases (nat_lt y x) (nat_eq y x && comes_before ys xs) f) [
        | inl high ↦ (let one = ltb-true y x high in let two = eqb-true x y (and_parts (nat_eq x y) (comes_before xs ys) same).0 in omega (arith, one, two))
        | inr also ↦ not_both xs ys (and_parts (nat_eq x y) (comes_before xs ys) same).1 (and_parts (nat_eq y x) (comes_before ys xs) also).1
      ]
    ]

-- behind the same number the rest decides
pub same_stage : (s : ℕ) (xs ys : List ℕ) → comes_before xs ys ≡ true → comes_before (s ∷ xs) (s ∷ ys) ≡ true
same_stage s xs ys e =
    or_right (nat_lt s s) (nat_eq s s && comes_before xs ys) (and_from (nat_eq s s) (comes_before xs ys) (eq-eqb s s refl) e)
