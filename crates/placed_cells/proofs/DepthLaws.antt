-- Where the cells of a netlist can be ordered, none is deeper than places are unrolled.
use Rattle.std.proofs.Common.{◌≡◌, ◌<◌, ◌≤◌, ◌∷◌, ◌||◌, ◌⊎◌, [], ℕ, zero, suc, not, cond, List, Bool, true, false, map, length, refl, ap, sym, subst, arith, inl, inr}
use Rattle.std.specs.Prelude.{nat_eq}
use Rattle.std.proofs.lemmas.Bool.{cases_Bool, cases_eq, cases_lt, eq-eqb, eqb-true, false≢true, or_cases}
use Rattle.std.proofs.lemmas.Option.{none-some, same_Some}
use Rattle.cell_inside.specs.Shifted.{IsWithinDepth}
use Rattle.place_paths.proofs.CellNames.{inner_inside}
use Rattle.placed_cells.specs.Depths.{OrderedIsWithinDepth}
use Rattle.vrt_model.proofs.Lists.{map_among}
use Rattle.vrt_model.proofs.Members.{among_later}
use Rattle.vrt_model.specs.Comparison.{cell_at}
use Rattle.vrt_model.specs.Cut.{count_below}
use Rattle.vrt_model.specs.Hierarchy.{cells_in}
use Rattle.vrt_model.specs.Lists.{Among}
use Rattle.vrt_model.specs.Nesting.{ContainsItself, IsWithin, depth_in, directly, further, greatest}
use Rattle.vrt_model.specs.Unrolled.{Top, cell_named}
use Rattle.vrt_model.specs.declared.design.InstanceCard.{InstanceCard}

-- ---- greatest numbers

greatest_above : (f : ℕ → ℕ) (xs : List ℕ) (x : ℕ) → Among xs x → f x ≤ greatest (map f xs)
greatest_above f [] x m = absurd (none-some x m.1)
greatest_above f (y ∷ xs) x (zero, e) = let same : f y ≡ f x = ap f (same_Some y x e) in omega (arith, same)
greatest_above f (y ∷ xs) x (suc i, e) = let rest = greatest_above f xs x (i, e) in omega (arith, rest)

greatest_below : (f : ℕ → ℕ) (bound : ℕ) (xs : List ℕ) → ((x : ℕ) → Among xs x → f x ≤ bound) → greatest (map f xs) ≤ bound
greatest_below f bound [] h = omega arith
greatest_below f bound (x ∷ xs) h =
    let here : f x ≤ bound = h x (0, refl) in
    let rest : greatest (map f xs) ≤ bound = greatest_below f bound xs (λ y m. h y (among_later x xs y m)) in
    omega (arith, here, rest)

-- ---- counts

-- where one test passes all that another does and one number more, it counts more
count_grows : (p q : ℕ → Bool) → ((m : ℕ) → p m ≡ true → q m ≡ true) → (count : ℕ) → count_below p count ≤ count_below q count
count_grows p q h zero = omega arith
count_grows p q h (suc count) = by_tests (p count) (q count) (h count) (count_grows p q h count)
  where
    by_tests : (b c : Bool) → (b ≡ true → c ≡ true) → count_below p count ≤ count_below q count
        → cond b (suc (count_below p count)) (count_below p count) ≤ cond c (suc (count_below q count)) (count_below q count)
    by_tests true true h le = omega (arith, le)
    by_tests true false h le = absurd (false≢true (h refl))
    by_tests false true h le = omega (arith, le)
    by_tests false false h le = le

count_above : (p q : ℕ → Bool) → ((m : ℕ) → p m ≡ true → q m ≡ true) → (n : ℕ) → p n ≡ false → q n ≡ true → (count : ℕ) → n < count → count_below p count < count_below q count
count_above p q h n off on zero lt = absurd (omega (arith, lt))
count_above p q h n off on (suc count) lt =
    elim (cases_eq n count) [
      | inl same ↦ at_last (p count) (q count) (subst (λ (k : ℕ). p k ≡ false) same off) (subst (λ (k : ℕ). q k ≡ true) same on)
      | inr other ↦ by_tests (p count) (q count) (h count) (let less : n < count = omega (arith, lt, other) in count_above p q h n off on count less)
    ]
  where
    at_last : (b c : Bool) → b ≡ false → c ≡ true → cond b (suc (count_below p count)) (count_below p count) < cond c (suc (count_below q count)) (count_below q count)
    at_last true c e f = absurd (false≢true (sym e))
    at_last false true e f = let le = count_grows p q h count in omega (arith, le)
    at_last false false e f = absurd (false≢true f)

    by_tests : (b c : Bool) → (b ≡ true → c ≡ true) → count_below p count < count_below q count
        → cond b (suc (count_below p count)) (count_below p count) < cond c (suc (count_below q count)) (count_below q count)
    by_tests true true h lt = omega (arith, lt)
    by_tests true false h lt = absurd (false≢true (h refl))
    by_tests false true h lt = omega (arith, lt)
    by_tests false false h lt = lt

count_few : (p : ℕ → Bool) (count : ℕ) → count_below p count ≤ count
count_few p zero = omega arith
count_few p (suc count) = by_test (p count) (count_few p count)
  where
    by_test : (b : Bool) → count_below p count ≤ count → cond b (suc (count_below p count)) (count_below p count) ≤ suc count
    by_test true le = omega (arith, le)
    by_test false le = omega (arith, le)

-- ---- depths

-- what stands in one stands in all in which that one stands
within_outer : {children : ℕ → List ℕ} (l n m : ℕ) → Among (children n) l → IsWithin children n m → IsWithin children l m
within_outer l n m a (directly b) = further b (directly a)
within_outer l n m a (further {l = k} b w) = further b (within_outer l n k a w)

-- Where none of so many contains itself, what stands in one is so deep at most as there are others that it does not stand in.
-- Those in which it stands are marked.
module _ (children : ℕ → List ℕ) (count : ℕ) (inside : (n m : ℕ) → Among (children n) m → m < count) (founded : (n : ℕ) → n < count → ¬ ContainsItself children n) where
  -- one more is marked
  abbrev marked : (ℕ → Bool) → ℕ → ℕ → Bool
  marked on n m = nat_eq m n || on m

  abbrev left : (ℕ → Bool) → ℕ
  left on = count_below (λ m. not (on m)) count

  fewer : (on : ℕ → Bool) (n : ℕ) → n < count → on n ≡ false → left (marked on n) < left on
  fewer on n lt off =
      count_above (λ m. not (nat_eq m n || on m)) (λ m. not (on m)) (λ m e. unmarked (nat_eq m n) (on m) e) n (ap (λ (b : Bool). not (b || on n)) (eq-eqb n n refl)) (ap not off) count lt
    where
      unmarked : (b c : Bool) → not (b || c) ≡ true → not c ≡ true
      unmarked true c e = absurd (false≢true e)
      unmarked false c e = e

  depth_left : (depth n : ℕ) (on : ℕ → Bool) → n < count → on n ≡ false → ((m : ℕ) → on m ≡ true → IsWithin children n m) → depth_in children depth n ≤ left on
  depth_left zero n on lt off all = let less = fewer on n lt off in omega (arith, less)
  depth_left (suc depth) n on lt off all =
      let less = fewer on n lt off in
      let rest = greatest_below (depth_in children depth) (left (marked on n)) (children n)
      (λ m a. depth_left depth m (marked on n) (inside n m a) (unmarked m a (cases_Bool (marked on n m))) (λ k e. above m a k e)) in
      omega (arith, less, rest)
    where
      above : (m : ℕ) → Among (children n) m → (k : ℕ) → marked on n k ≡ true → IsWithin children m k
      above m a k e =
          elim (or_cases (nat_eq k n) (on k) e) [
            | inl same ↦ directly (subst (λ (j : ℕ). Among (children j) m) (sym (eqb-true k n same)) a)
            | inr there ↦ within_outer m n k a (all k there)
          ]

      unmarked : (m : ℕ) → Among (children n) m → (marked on n m ≡ true) ⊎ (marked on n m ≡ false) → marked on n m ≡ false
      unmarked m a (inr f) = f
      unmarked m a (inl t) = absurd (founded m (inside n m a) (above m a m t))

  -- so no depth is above their count
  pub depth_few : (depth n : ℕ) → n < count → depth_in children depth n ≤ count
  depth_few depth n lt =
      let le = depth_left depth n (λ m. false) lt refl (λ m e. absurd (false≢true e)) in
      let all = count_few (λ m. true) count in
      omega (arith, le, all)

-- ---- cells

module _ (t : Top) where
  depth_some : (rounds n : ℕ) → 1 ≤ depth_in (cells_in t.design) rounds n
  depth_some zero n = omega arith
  depth_some (suc rounds) n = omega arith

  within_depth : (depth rounds n : ℕ) → depth < rounds → depth_in (cells_in t.design) rounds n ≤ suc depth → IsWithinDepth t depth n
  within_depth depth zero n lt le = absurd (omega (arith, lt))
  within_depth zero (suc rounds) n lt le = leaf (cell_at t.design n).instances le
    where
      leaf : (cards : List InstanceCard) → suc (greatest (map (depth_in (cells_in t.design) rounds) (map (λ (i : InstanceCard). cell_named t.design i.cell) cards))) ≤ 1 → cards ≡ []
      leaf [] le = refl
      leaf (i ∷ cards) le = let some = depth_some rounds (cell_named t.design i.cell) in absurd (omega (arith, some, le))
  within_depth (suc depth) (suc rounds) n lt le =
      λ i m.
      let here = greatest_above (depth_in (cells_in t.design) rounds) (cells_in t.design n) (cell_named t.design i.cell) (map_among (λ (j : InstanceCard). cell_named t.design j.cell) (cell_at t.design n).instances i m) in
      within_depth depth rounds (cell_named t.design i.cell) (omega (arith, lt)) (omega (arith, here, le))

pub ordered_is_within_depth : OrderedIsWithinDepth
ordered_is_within_depth t cell ordered there =
    elim (cases_lt 32 (length t.design.cells)) [
      | inl many ↦ let le = ordered.shallow cell there in within_depth t 32 (length t.design.cells) cell many (omega (arith, le))
      | inr few ↦
          let le = depth_few (cells_in t.design) (length t.design.cells) (inner_inside t.design (omega (arith, there))) ordered.well_founded 33 cell there in
          within_depth t 32 33 cell (omega arith) (omega (arith, le, few))
    ]
