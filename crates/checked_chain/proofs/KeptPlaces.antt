-- The places of what a filter keeps: how many of those before it are kept.
use Rattle.std.proofs.Common.{◌≡◌, ℕ, zero, suc, ◌<◌, ◌≤◌, Bool, true, false, cond, List, [], ◌∷◌, arith, subst, sym, refl, ◌∙◌, ap, ap₂, inl, inr}
use Rattle.std.specs.Prelude.{filter, option_map, slice_get, unwrap_or}
use Rattle.std.proofs.lemmas.Bool.{cases_lt}
use Rattle.std.proofs.lemmas.Option.{none-some}
use Rattle.vrt_model.specs.Cut.{count_below}
use Rattle.vrt_model.specs.Lists.{At}

-- ---- counts

-- the count without the first number, and whether that one is counted
count_front : (test : ℕ → Bool) (i : ℕ) → count_below test (suc i) ≡ cond (test 0) (suc (count_below (λ j. test (suc j)) i)) (count_below (λ j. test (suc j)) i)
count_front test zero = refl
count_front test (suc i) =
    ap (λ (n : ℕ). cond (test (suc i)) (suc n) n) (count_front test i) ∙ swapped (test 0) (test (suc i)) (count_below (λ j. test (suc j)) i)
  where
    swapped : (a b : Bool) (n : ℕ) → cond b (suc (cond a (suc n) n)) (cond a (suc n) n) ≡ cond a (suc (cond b (suc n) n)) (cond b (suc n) n)
    swapped true true n = refl
    swapped true false n = refl
    swapped false true n = refl
    swapped false false n = refl

count_grows : (test : ℕ → Bool) (n : ℕ) → count_below test n ≤ count_below test (suc n)
count_grows test n = by_test (test n)
  where
    by_test : (b : Bool) → count_below test n ≤ cond b (suc (count_below test n)) (count_below test n)
    by_test true = omega arith
    by_test false = omega arith

-- what is counted is counted before all behind it
counted_less : (test : ℕ → Bool) (i j : ℕ) → test i ≡ true → i < j → count_below test i < count_below test j
counted_less test i zero e lt = absurd (omega (arith, lt))
counted_less test i (suc j) e lt =
    elim (cases_lt i j) [
      | inl less ↦ let before = counted_less test i j e less in let more = count_grows test j in omega (arith, before, more)
      | inr le ↦ last (omega (arith, lt, le))
    ]
  where
    last : i ≡ j → count_below test i < count_below test (suc j)
    last same =
        subst (λ (k : ℕ). count_below test i < count_below test (suc k)) same
        (subst (λ (b : Bool). count_below test i < cond b (suc (count_below test i)) (count_below test i)) (sym e) (omega arith))

pub counted_apart : (test : ℕ → Bool) (i j : ℕ) → test i ≡ true → test j ≡ true → count_below test i ≡ count_below test j → i ≡ j
counted_apart test i j a b same =
    elim (cases_lt i j) [
      | inl lt ↦ absurd (let less = counted_less test i j a lt in omega (arith, less, same))
      | inr ge ↦ elim (cases_lt j i) [
        | inl lt ↦ absurd (let less = counted_less test j i b lt in omega (arith, less, same))
        | inr le ↦ omega (arith, ge, le)
      ]
    ]

-- ---- what a filter keeps

-- whether the item at a place is kept, and so where there is none
abbrev pub is_kept : {X : Type 0} → (X → Bool) → List X → ℕ → Bool
is_kept test xs i = unwrap_or (option_map test (slice_get xs i)) true

pub kept_at : {X : Type 0} (test : X → Bool) (xs : List X) (i : ℕ) → is_kept test xs i ≡ true → slice_get (filter test xs) (count_below (is_kept test xs) i) ≡ slice_get xs i
kept_at test [] i e = refl
kept_at {X} test (x ∷ xs) zero e = ap (λ (b : Bool). slice_get (cond b (x ∷ filter test xs) (filter test xs)) zero) e
kept_at {X} test (x ∷ xs) (suc i) e =
    ap (slice_get (filter test (x ∷ xs))) (count_front (is_kept test (x ∷ xs)) i) ∙ by_test (test x) ∙ kept_at test xs i e
  where
    by_test : (b : Bool) → slice_get (cond b (x ∷ filter test xs) (filter test xs)) (cond b (suc (count_below (is_kept test xs) i)) (count_below (is_kept test xs) i))
        ≡ slice_get (filter test xs) (count_below (is_kept test xs) i)
    by_test true = refl
    by_test false = refl

-- an item that is kept, of those before which so many are
abbrev pub IsAtKept : {X : Type 0} → (X → Bool) → List X → X → ℕ → Type 0
IsAtKept test xs x k = (i : ℕ) × (is_kept test xs i ≡ true) × (count_below (is_kept test xs) i ≡ k) × At xs i x

pub at_kept : {X : Type 0} (test : X → Bool) (xs : List X) (j : ℕ) (x : X) → At (filter test xs) j x → IsAtKept test xs x j
at_kept test [] j x e = absurd (none-some x e)
at_kept {X} test (y ∷ ys) j x e = by_test (λ k h. at_kept test ys k x h) (test y) refl j e
  where
    later : (b : Bool) → test y ≡ b → (k : ℕ) → IsAtKept test ys x k → IsAtKept test (y ∷ ys) x (cond b (suc k) k)
    later b t k h =
        (suc h.0, h.1, count_front (is_kept test (y ∷ ys)) h.0 ∙ ap₂ (λ (a : Bool) (n : ℕ). cond a (suc n) n) t h.2, h.3)

    by_test : ((k : ℕ) → At (filter test ys) k x → IsAtKept test ys x k) → (b : Bool) → test y ≡ b → (k : ℕ) → At (cond b (y ∷ filter test ys) (filter test ys)) k x → IsAtKept test (y ∷ ys) x k
    by_test rest true t zero here = (zero, t, refl, here)
    by_test rest true t (suc k) here = later true t k (rest k here)
    by_test rest false t k here = later false t k (rest k here)
