-- Sets of numbers, and counts.
use Rattle.std.proofs.Common.{◌≡◌, ◌++◌, ◌∷◌, ◌||◌, ◌&&◌, ◌+◌, ◌-◌, ◌<◌, ◌≤◌, [], ℕ, zero, suc, nat_lt, List, Bool, true, false, cond, take, set, length, get_or, replicate, refl, ap, sym, ◌∙◌, inl, inr, add-zero, arith}
use Rattle.std.specs.Prelude.{◌==◌, count_by}
use Rattle.std.proofs.lemmas.Bool.{cases_eq}
use Rattle.std.proofs.lemmas.Bool.Decides.{Decides-eqb, nat_tests}
use Rattle.std.proofs.lemmas.List.{get_or-set_same, get_or-set_other, take_all}
use Rattle.std.proofs.lemmas.List.Folds.{list_any-append}
use Rattle.std.proofs.lemmas.List.Sums.{sum_by-append, sum_by-cons}
use Rattle.vrt_model.specs.Lists.{has_number}
use Rattle.latch_match.specs.Marked.{AreCounts, has_in}
use Rattle.latch_match.specs.declared.counts.Counts.{Counts}
use Rattle.latch_match.specs.declared.numbers.NumberSet.{NumberSet}

pub no_mark : (count n : ℕ) → get_or (replicate count false) n false ≡ false
no_mark zero n = refl
no_mark (suc count) zero = refl
no_mark (suc count) (suc n) = no_mark count n

unset_behind : (marks : List Bool) (count n : ℕ) → get_or (marks ++ replicate count false) n false ≡ get_or marks n false
unset_behind [] count n = no_mark count n
unset_behind (m ∷ marks) count zero = refl
unset_behind (m ∷ marks) count (suc n) = unset_behind marks count n

pub mark_reached : (old new : List Bool) (len n : ℕ) → length old ≤ len → new ≡ take len old ++ replicate (len - length old) false → get_or new n false ≡ get_or old n false
mark_reached old new len n le e =
    ap (λ (ms : List Bool). get_or ms n false) (e ∙ ap (λ (ms : List Bool). ms ++ replicate (len - length old) false) (take_all len old le)) ∙ unset_behind old (len - length old) n

or_no : (b : Bool) → b ≡ (b || false)
or_no true = refl
or_no false = refl

or_yes : (b : Bool) → true ≡ (b || true)
or_yes true = refl
or_yes false = refl

differs : (k n : ℕ) → (k ≡ n → ⊥) → (k == n) ≡ false
differs k n h = by_test (k == n) refl where
  by_test : (b : Bool) → (k == n) ≡ b → (k == n) ≡ false
  by_test true e = absurd (h ((Decides-eqb k n).0 e))
  by_test false e = e

-- one mark more
pub marked : (old long : List Bool) (k n : ℕ) → k < length long → get_or long n false ≡ get_or old n false → get_or (set long k true) n false ≡ (get_or old n false || (k == n))
marked old long k n lt same = elim (cases_eq k n) [
  | inl e ↦
      ap (λ j. get_or (set long k true) j false) (sym e) ∙ get_or-set_same long k true false lt ∙ or_yes (get_or old n false)
      ∙ ap (λ (b : Bool). get_or old n false || b) (sym ((Decides-eqb k n).1 e))
  | inr h ↦
      get_or-set_other long k n true false (λ e. h (sym e)) ∙ same ∙ or_no (get_or old n false) ∙ ap (λ (b : Bool). get_or old n false || b) (sym (differs k n h))
]

-- the first of some numbers, and those behind it
pub more_marked : (a b c d : Bool) → b ≡ (a || c) → (b || d) ≡ (a || (c || d))
more_marked true b c d e = ap (λ x. x || d) e
more_marked false b c d e = ap (λ x. x || d) e

-- ---- counts

number_more : (numbers : List ℕ) (k n : ℕ) → has_number (numbers ++ k ∷ []) n ≡ (has_number numbers n || (k == n))
number_more numbers k n = list_any-append (λ x. x == n) numbers (k ∷ []) ∙ ap (λ (b : Bool). has_number numbers n || b) (sym (or_no (k == n)))

-- how often a number stands in a list
abbrev times : List ℕ → ℕ → ℕ
times numbers n = count_by (λ other. other == n) numbers

times_more : (numbers : List ℕ) (k n : ℕ) → times (numbers ++ k ∷ []) n ≡ times numbers n + cond (k == n) 1 0
times_more numbers k n = sum_by-append (λ x. cond (x == n) 1 0) numbers (k ∷ []) ∙ ap (λ t. times numbers n + t) (sum_by-cons (λ x. cond (x == n) 1 0) k [] ∙ add-zero (cond (k == n) 1 0))

has_times : (numbers : List ℕ) (n : ℕ) → has_number numbers n ≡ nat_lt 0 (times numbers n)
has_times [] n = refl
has_times (x ∷ numbers) n = by_test (x == n) (has_number numbers n) (times numbers n) (has_times numbers n) ∙ ap (nat_lt 0) (sym (sum_by-cons (λ y. cond (y == n) 1 0) x numbers)) where
  by_test : (b h : Bool) (t : ℕ) → h ≡ nat_lt 0 t → (b || h) ≡ nat_lt 0 (cond b 1 0 + t)
  by_test true h t e = grind (arith, nat_tests)
  by_test false h t e = e ∙ ap (nat_lt 0) (omega arith)

more_than_one : (b : Bool) (t : ℕ) → (nat_lt 1 t || (b && nat_lt 0 t)) ≡ nat_lt 1 (t + cond b 1 0)
more_than_one true t = grind (arith, nat_tests)
more_than_one false t = grind (arith, nat_tests)

-- a number that is the same is there as well
at_same : (numbers : List ℕ) (k n : ℕ) (h : Bool) → has_number numbers k ≡ h → (k == n) ≡ true → has_number numbers n ≡ h
at_same numbers k n h e t = ap (has_number numbers) (sym ((Decides-eqb k n).0 t)) ∙ e

there_still : (numbers : List ℕ) (k n : ℕ) → has_number numbers k ≡ true → has_number numbers n ≡ (has_number numbers n || (k == n))
there_still numbers k n h = by_test (k == n) refl where
  by_test : (b : Bool) → (k == n) ≡ b → has_number numbers n ≡ (has_number numbers n || b)
  by_test true e = let t = at_same numbers k n true h e in t ∙ ap (λ (x : Bool). x || true) (sym t)
  by_test false e = or_no (has_number numbers n)

-- one number more that is there
again_more : (numbers : List ℕ) (k n : ℕ) → has_number numbers k ≡ true → (nat_lt 1 (times numbers n) || (k == n)) ≡ nat_lt 1 (times (numbers ++ k ∷ []) n)
again_more numbers k n h = ap (λ (b : Bool). nat_lt 1 (times numbers n) || b) (by_test (k == n) refl) ∙ more_than_one (k == n) (times numbers n) ∙ ap (nat_lt 1) (sym (times_more numbers k n)) where
  by_test : (b : Bool) → (k == n) ≡ b → b ≡ (b && nat_lt 0 (times numbers n))
  by_test true e = sym (sym (has_times numbers n) ∙ at_same numbers k n true h e)
  by_test false e = refl

-- one number more that is not
again_same : (numbers : List ℕ) (k n : ℕ) → has_number numbers k ≡ false → nat_lt 1 (times numbers n) ≡ nat_lt 1 (times (numbers ++ k ∷ []) n)
again_same numbers k n h = or_no (nat_lt 1 (times numbers n)) ∙ ap (λ (b : Bool). nat_lt 1 (times numbers n) || b) (by_test (k == n) refl) ∙ more_than_one (k == n) (times numbers n) ∙ ap (nat_lt 1) (sym (times_more numbers k n)) where
  by_test : (b : Bool) → (k == n) ≡ b → false ≡ (b && nat_lt 0 (times numbers n))
  by_test true e = sym (sym (has_times numbers n) ∙ at_same numbers k n false h e)
  by_test false e = refl

pub counted_again : (numbers : List ℕ) (k : ℕ) (counts : Counts) (again : NumberSet) → has_in counts.once k ≡ true → ((n : ℕ) → has_in again n ≡ (has_in counts.again n || (k == n))) → AreCounts numbers counts
    → AreCounts (numbers ++ k ∷ []) (record { once = counts.once; again = again })
counted_again numbers k counts again h more t =
    let there : has_number numbers k ≡ true = sym (t.once k) ∙ h in
    record {
      once = λ n. t.once n ∙ there_still numbers k n there ∙ sym (number_more numbers k n);
      again = λ n. more n ∙ ap (λ (b : Bool). b || (k == n)) (t.again n) ∙ again_more numbers k n there;
    }

pub counted_once : (numbers : List ℕ) (k : ℕ) (counts : Counts) (once : NumberSet) → has_in counts.once k ≡ false → ((n : ℕ) → has_in once n ≡ (has_in counts.once n || (k == n))) → AreCounts numbers counts
    → AreCounts (numbers ++ k ∷ []) (record { once = once; again = counts.again })
counted_once numbers k counts once h more t =
    let new : has_number numbers k ≡ false = sym (t.once k) ∙ h in
    record {
      once = λ n. more n ∙ ap (λ (b : Bool). b || (k == n)) (t.once n) ∙ sym (number_more numbers k n);
      again = λ n. t.again n ∙ again_same numbers k n new;
    }
