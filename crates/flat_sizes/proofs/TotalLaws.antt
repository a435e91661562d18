-- Tables of how often cells stand in a cell.
use Rattle.std.proofs.Common.{◌≡◌, ◌<◌, ◌≤◌, ◌+◌, ◌*◌, ◌∷◌, [], ℕ, zero, suc, List, Option, length, get_or, drop, take, replicate, true, refl, ap, ap₂, sym, ◌∙◌, arith, add-one}
use Rattle.std.specs.Prelude.{◌==◌, slice_set, unwrap_or}
use Rattle.std.specs.List.{list_all}
use Rattle.std.proofs.Math.Nat.{mul-add, mul-zero, zero-mul}
use Rattle.std.proofs.lemmas.Bool.{and_parts, eqb-true}
use Rattle.std.proofs.lemmas.List.{drop_all, drop_more, get_or-replicate, length-replicate, take_all, take_more_set}
use Rattle.std.proofs.lemmas.List.Sums.{sum_by_push}
use Rattle.std.proofs.lemmas.Option.{slice_get_past}
use Rattle.flat_sizes.proofs.Tallies.{IsDown, IsTally, Tally, four, later, level_done, level_down, level_last, more_there, none_more}
use Rattle.flat_sizes.specs.Totals.{AreCounted, AreInside, CountsAll, CountsOne, IsListed, below, inside, over, stood, weighed, within}
use Rattle.flat_sizes.specs.declared.stands.Stand.{Stand}
use Rattle.vrt_model.specs.Unsupported.{carried}
use Rattle.vrt_model.specs.declared.design.Cell.{Cell}
use Rattle.vrt_model.specs.declared.design.Design.{Design}

-- ---- tables

weighed_sum : (f g : ℕ → ℕ) (at : ℕ) (xs : List ℕ) → weighed (λ k. f k + g k) at xs ≡ weighed f at xs + weighed g at xs
weighed_sum f g at [] = refl
weighed_sum f g at (x ∷ xs) =
    ap₂ ◌+◌ (mul-add x (f at) (g at)) (weighed_sum f g (suc at) xs) ∙ four (x * f at) (x * g at) (weighed f (suc at) xs) (weighed g (suc at) xs)

weighed_none : (at : ℕ) (xs : List ℕ) → weighed (λ k. 0) at xs ≡ 0
weighed_none at [] = refl
weighed_none at (x ∷ xs) = none_more _ _ (mul-zero x) (weighed_none (suc at) xs)

pub weighed_zeros : (weight : ℕ → ℕ) (at n : ℕ) → weighed weight at (replicate n 0) ≡ 0
weighed_zeros weight at zero = refl
weighed_zeros weight at (suc n) = none_more _ _ (zero-mul (weight at)) (weighed_zeros weight (suc at) n)

-- one number larger, up to the greatest
set_more : (weight : ℕ → ℕ) (at k count new : ℕ) (xs : List ℕ) → k < length xs → new ≡ carried (get_or xs k 0 + count)
    → carried (weighed weight at (slice_set xs k new)) ≡ carried (weighed weight at xs + count * weight (at + k))
set_more weight at k count new [] lt e = absurd (omega (arith, lt))
set_more weight at zero count new (x ∷ xs) lt e =
    let same : at ≡ at + 0 = omega arith in
    more_there x count new (weight at) (weighed weight (suc at) xs) e
    ∙ ap (λ (n : ℕ). carried (x * weight at + weighed weight (suc at) xs + count * weight n)) same
set_more weight at (suc k) count new (x ∷ xs) lt e =
    let same : suc at + k ≡ at + suc k = omega arith in
    later (x * weight at) (weighed weight (suc at) (slice_set xs k new)) (weighed weight (suc at) xs) (count * weight (suc at + k))
    (set_more weight (suc at) k count new xs (omega (arith, lt)) e)
    ∙ ap (λ (n : ℕ). carried (x * weight at + weighed weight (suc at) xs + count * weight n)) same

-- one cell stands so often more
pub one_more : (k count new : ℕ) (xs : List ℕ) → k < length xs → new ≡ carried (get_or xs k 0 + count) → CountsOne k count xs (slice_set xs k new)
one_more k count new xs lt e weight =
    let same : 0 + k ≡ k = omega arith in
    set_more weight 0 k count new xs lt e ∙ ap (λ (n : ℕ). carried (weighed weight 0 xs + count * weight n)) same

-- ---- the cells of a level

abbrev pub CountingAll : Design → List ℕ → List ℕ → List ℕ → ℕ → Type 0
CountingAll design level old now k =
    (weight : ℕ → ℕ) → carried (weighed weight 0 now + weighed (below design weight) k (drop k level)) ≡ carried (weighed weight 0 old + weighed (below design weight) 0 level)

-- no cell stands behind the last one
none_below : (design : Design) (weight : ℕ → ℕ) (k : ℕ) → length design.cells ≤ k → below design weight k ≡ 0
none_below design weight k past =
    ap (λ (o : Option Cell). over design weight (unwrap_or o (record { line = 0; name = []; ports = []; devices = []; instances = [] })).instances) (slice_get_past design.cells k past)

none_weighed : (design : Design) (weight : ℕ → ℕ) (k : ℕ) (xs : List ℕ) → length design.cells ≤ k → weighed (below design weight) k xs ≡ 0
none_weighed design weight k [] past = refl
none_weighed design weight k (x ∷ xs) past =
    none_more _ _ (ap (λ (n : ℕ). x * n) (none_below design weight k past) ∙ mul-zero x) (none_weighed design weight (suc k) xs (omega (arith, past)))

-- so those of all cells are all that is added
pub all_added : (design : Design) (level old now : List ℕ) (k : ℕ) → length design.cells ≤ k → CountingAll design level old now k → CountsAll design level old now
all_added design level old now k past adding weight =
    let z : weighed (below design weight) k (drop k level) ≡ 0 = none_weighed design weight k (drop k level) past in
    let all : weighed weight 0 now ≡ weighed weight 0 now + weighed (below design weight) k (drop k level) = omega (arith, z) in
    ap carried all ∙ adding weight

-- a level without cells counts nothing
pub weighed_empty : (weight : ℕ → ℕ) (at : ℕ) (xs : List ℕ) → list_all (λ (count : ℕ). count == 0) xs ≡ true → weighed weight at xs ≡ 0
weighed_empty weight at [] e = refl
weighed_empty weight at (x ∷ xs) e =
    let p = and_parts (x == 0) (list_all (λ (count : ℕ). count == 0) xs) e in
    none_more _ _ (ap (λ (n : ℕ). n * weight at) (eqb-true x 0 p.0) ∙ zero-mul (weight at)) (weighed_empty weight (suc at) xs p.1)

-- ---- level by level

abbrev pub tally_of : List ℕ → Tally
tally_of table weight = weighed weight 0 table

pub is_tally : (table : List ℕ) → IsTally (tally_of table)
is_tally table = record { sum = λ f g. weighed_sum f g 0 table; none = weighed_none 0 table }

-- what is counted so far, with what stands in a level at most so deep, is what stands in the cell
abbrev pub IsCountedDown : Design → ℕ → ℕ → List ℕ → List ℕ → Type 0
IsCountedDown design k depth all level = IsDown design depth (λ weight. inside design weight k) (tally_of all) (tally_of level)

without : (z a b : ℕ) → z ≡ 0 → carried a ≡ carried (z + b) → carried a ≡ carried b
without z a b none e = omega (arith, none, e)

pub counted_down : (design : Design) (k depth below_it : ℕ) (all new level zeros next : List ℕ) → depth ≡ suc below_it → ((weight : ℕ → ℕ) → weighed weight 0 zeros ≡ 0)
    → CountsAll design level zeros next → CountsAll design level all new → IsCountedDown design k depth all level → IsCountedDown design k below_it new next
counted_down design k depth d all new level zeros next e none nexts news down =
    level_down design depth d (λ weight. inside design weight k) (tally_of all) (tally_of new) (tally_of level) (tally_of next) e (is_tally next)
    (λ weight. without (weighed weight 0 zeros) (weighed weight 0 next) (weighed (below design weight) 0 level) (none weight) (nexts weight)) news down

first_step : (z a y t : ℕ) → z ≡ 0 → y ≡ 0 → carried a ≡ carried (y + 1 * t) → carried (z + a) ≡ carried t
first_step z a y t e f g = omega (arith, e, f, g)

pub zeros_none : (n : ℕ) (zeros : List ℕ) → zeros ≡ replicate n 0 → (weight : ℕ → ℕ) → weighed weight 0 zeros ≡ 0
zeros_none n zeros e weight = ap (weighed weight 0) e ∙ weighed_zeros weight 0 n

module _ (design : Design) (n k : ℕ) (all zeros : List ℕ) (first : all ≡ replicate n 0) (second : zeros ≡ replicate n 0) (lt : k < n) where
  -- the cell itself stands there once
  abbrev level : List ℕ
  level = slice_set zeros k 1

  one_there : (f : ℕ → ℕ) → carried (weighed f 0 level) ≡ carried (weighed f 0 zeros + 1 * f k)
  one_there f =
      let size : length zeros ≡ n = ap (λ (xs : List ℕ). length xs) second ∙ length-replicate n 0 in
      let none : get_or zeros k 0 ≡ 0 = ap (λ (xs : List ℕ). get_or xs k 0) second ∙ get_or-replicate n k 0 0 lt in
      one_more k 1 1 zeros (omega (arith, size, lt)) (omega (arith, none)) f

  pub counted_first : IsCountedDown design k 32 all level
  unfolding inside
  counted_first weight =
      let f = within design weight 32 in
      first_step (weighed weight 0 all) (weighed f 0 level) (weighed f 0 zeros) (f k) (zeros_none n all first weight) (zeros_none n zeros second f) (one_there f)

pub counted_last : (design : Design) (k depth : ℕ) (all level : List ℕ) → depth ≡ 0 → IsCountedDown design k depth all level → AreCounted design k all
counted_last design k depth all level e = level_last design depth (λ weight. inside design weight k) (tally_of all) (tally_of level) (is_tally level) e

pub counted_empty : (design : Design) (k depth : ℕ) (all level : List ℕ) → list_all (λ (count : ℕ). count == 0) level ≡ true → IsCountedDown design k depth all level → AreCounted design k all
counted_empty design k depth all level e =
    level_done design depth (λ weight. inside design weight k) (tally_of all) (tally_of level) (λ weight. weighed_empty (within design weight depth) 0 level e)

-- ---- as a list of stands

listed_step : (a b n p q r : ℕ) → b ≡ a + p → n ≡ p + q → a + n ≡ r → b + q ≡ r
listed_step a b n p q r e f g = omega (arith, e, f, g)

-- the stands so far, with the counts that are left
abbrev pub Listing : List ℕ → List Stand → ℕ → Type 0
Listing table stands k = (weight : ℕ → ℕ) → stood weight (take k stands) + weighed weight k (drop k table) ≡ weighed weight 0 table

pub listed_first : (table : List ℕ) (stands : List Stand) → Listing table stands 0
listed_first table stands weight = let all : 0 + weighed weight 0 table ≡ weighed weight 0 table = omega arith in all

pub listed_more : (table : List ℕ) (stands : List Stand) (k : ℕ) (s : Stand) → k < length table → k < length stands → s.cell ≡ k → s.count ≡ get_or table k 0
    → Listing table stands k → Listing table (slice_set stands k s) (k + 1)
listed_more table stands k s lt there cell count so_far weight =
    let w : Stand → ℕ = λ (x : Stand). x.count * weight x.cell in
    listed_step (stood weight (take k stands)) (stood weight (take (k + 1) (slice_set stands k s))) (weighed weight k (drop k table)) (s.count * weight s.cell)
    (weighed weight (k + 1) (drop (k + 1) table)) (weighed weight 0 table) (ap (stood weight) (take_more_set stands k s there) ∙ sum_by_push w (take k stands) s)
    (ap (weighed weight k) (drop_more table k 0 lt) ∙ ap₂ (λ (x m : ℕ). x * weight m + weighed weight (suc k) (drop (k + 1) table)) (sym count) (sym cell)
    ∙ ap (λ (m : ℕ). s.count * weight s.cell + weighed weight m (drop (k + 1) table)) (sym (add-one k))) (so_far weight)

pub all_listed : (table : List ℕ) (stands : List Stand) (k : ℕ) → length table ≤ k → length stands ≤ k → Listing table stands k → IsListed table stands
all_listed table stands k end all so_far weight =
    let z : weighed weight k (drop k table) ≡ 0 = ap (weighed weight k) (drop_all k table end) in
    let t : stood weight (take k stands) ≡ stood weight stands = ap (stood weight) (take_all k stands all) in
    let is : stood weight (take k stands) + weighed weight k (drop k table) ≡ weighed weight 0 table = so_far weight in omega (arith, z, t, is)

pub listed_inside : (design : Design) (k : ℕ) (table : List ℕ) (stands : List Stand) → IsListed table stands → AreCounted design k table → AreInside design k stands
listed_inside design k table stands listed counted weight = ap carried (listed weight) ∙ counted weight
