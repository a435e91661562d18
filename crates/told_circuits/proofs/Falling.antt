-- What goes on while something falls comes to an end; and lists from which one number at a time is taken.
use Rattle.std.proofs.Common.{◌≡◌, ℕ, zero, suc, ◌<◌, ◌≤◌, ◌⊎◌, ◌+◌, ◌==◌, Bool, true, false, not, List, [], ◌∷◌, length, arith, ap, refl, subst, sym, ◌∙◌, inl, inr}
use Rattle.std.specs.Prelude.{cond, filter}
use Rattle.std.specs.List.{range_with_len}
use Rattle.std.proofs.lemmas.Bool.{eq-eqb, false≢true, ne_eqb, not-true}
use Rattle.std.proofs.lemmas.List.FromFn.{get_or-range_with_len, length-range_with_len}
use Rattle.std.proofs.lemmas.List.Sums.{count_by-le-length, length-filter}
use Rattle.std.proofs.lemmas.Option.{none-some, same_Some, slice_get-get_or}
use Rattle.vrt_model.proofs.Filtered.{among_kept, filter_among}
use Rattle.vrt_model.specs.Lists.{At, Among}

-- from each state something is done, or there is a further one of lower size: so from each state one is reached where it is done
pub until_done : {S : Type 0} (size : S → ℕ) (Holds Done : S → Type 0) → ((s : S) → Holds s → Done s ⊎ ((t : S) × Holds t × (size t < size s)))
    → (k : ℕ) (s : S) → size s < k → Holds s → (t : S) × Holds t × Done t
until_done size Holds Done step zero s low holds = absurd (omega (arith, low))
until_done size Holds Done step (suc k) s low holds =
    elim (step s holds) [
      | inl done ↦ (s, holds, done)
      | inr next ↦ (let fell = next.2 in until_done size Holds Done step k next.0 (omega (arith, low, fell)) next.1)
    ]

-- ---- lists without a number

abbrev pub without : ℕ → List ℕ → List ℕ
without n xs = filter (λ x. not (x == n)) xs

-- what is left was there, and is not the number
pub left_of : (n : ℕ) (xs : List ℕ) (m : ℕ) → Among (without n xs) m → Among xs m × (¬ (m ≡ n))
left_of n xs m there =
    let h = filter_among (λ x. not (x == n)) xs m there in
    (h.0, λ e. false≢true (sym (not-true (m == n) h.1) ∙ eq-eqb m n e))

-- all others are left
pub left_there : (n : ℕ) (xs : List ℕ) (m : ℕ) → Among xs m → (¬ (m ≡ n)) → Among (without n xs) m
left_there n xs m there other = among_kept (λ x. not (x == n)) xs m there (ap not (ne_eqb m n other))

-- and there are fewer
pub without_fewer : (n : ℕ) (xs : List ℕ) → Among xs n → length (without n xs) < length xs
without_fewer n [] there = absurd (none-some n there.1)
without_fewer n (x ∷ xs) (place, e) = by_test (λ there. without_fewer n xs there) (x == n) refl
  where
    at_most : length (without n xs) ≤ length xs
    at_most = (let count = length-filter (λ y. not (y == n)) xs in let le = count_by-le-length (λ y. not (y == n)) xs in omega (arith, count, le))

    by_place : (Among xs n → length (without n xs) < length xs) → (i : ℕ) → At (x ∷ xs) i n → (x == n) ≡ false → length (without n xs) < length xs
    by_place later zero at test = absurd (false≢true (sym test ∙ eq-eqb x n (same_Some x n at)))
    by_place later (suc i) at test = later (i, at)

    by_test : (Among xs n → length (without n xs) < length xs) → (b : Bool) → (x == n) ≡ b
        → length (cond (not b) (x ∷ without n xs) (without n xs)) < length (x ∷ xs)
    by_test later true test = omega (arith, at_most)
    by_test later false test = (let rest = by_place later place e test in omega (arith, rest))

-- ---- all numbers below one

pub number_listed : (count n : ℕ) → n < count → Among (range_with_len 0 count) n
number_listed count n lt =
    let size = length-range_with_len 0 count in
    let is : 0 + n ≡ n = omega arith in
    (n, subst (At (range_with_len 0 count) n) (get_or-range_with_len 0 count n 0 lt ∙ is) (slice_get-get_or (range_with_len 0 count) n 0 (omega (arith, lt, size))))
