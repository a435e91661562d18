-- The numbers in the order in which they get their levels: each stands behind its sources.
use Rattle.std.proofs.Common.{◌≡◌, ℕ, ◌<◌, ◌⊎◌, true, false, List, [], ◌∷◌, ◌++◌, length, replicate, slice_index, arith, ap, subst, sym, ◌∙◌, inl, inr}
use Rattle.std.specs.Prelude.{nat_lt}
use Rattle.std.specs.List.{list_all}
use Rattle.std.proofs.lemmas.Bool.{cases_eq}
use Rattle.std.proofs.lemmas.Option.{slice_get_within}
use Rattle.vrt_model.proofs.Lists.{at_front, at_last, at_split}
use Rattle.graphs.proofs.Acyclic.{none_behind}
use Rattle.graphs.proofs.GroupLaws.{arc_within}
use Rattle.graphs.proofs.LevelLaws.{level_stays, levels_all, levels_none, zero_level}
use Rattle.graphs.proofs.Lists.{index_within}
use Rattle.graphs.proofs.Walks.{rises_acyclic}
use Rattle.graphs.specs.Graphs.{ArcIn, AreInside, sources_at}
use Rattle.graphs.specs.Levels.{AreLevels, AreStuck, IsLevelled}
use Rattle.graphs.specs.Orders.{IsOrder, IsPlacing}
use Rattle.vrt_model.proofs.Members.{at_none}
use Rattle.vrt_model.specs.Known.{IsCycle}
use Rattle.vrt_model.specs.Lists.{At, Among}

-- ---- one more number is placed

pub placed_none : (sources : List (List ℕ)) (t : List ℕ) (count : ℕ) → t ≡ replicate count 0 → IsPlacing sources t []
placed_none sources t count zeros = record {
  listed = λ n has. let none = ap (λ (xs : List ℕ). slice_index xs n) zeros ∙ zero_level count n in absurd (omega (arith, none, has));
  levelled = λ n a. absurd (at_none a.0 n a.1);
  once = λ i j n a b. absurd (at_none i n a);
  follows = λ from to k a arc. absurd (at_none k to a);
}

pub placed_next : (sources : List (List ℕ)) (n : ℕ) (t u steps : List ℕ) → IsLevelled sources n t u → IsPlacing sources t steps → IsPlacing sources u (steps ++ n ∷ [])
placed_next sources n t u steps made so = record {
  listed = λ m has. elim (cases_eq m n) [
    | inl e ↦ (length steps, subst (λ (k : ℕ). At (steps ++ n ∷ []) (length steps) k) (sym e) (at_last steps n))
    | inr ne ↦
        let others = made.others m ne in
        let a = so.listed m (omega (arith, others, has)) in
        (a.0, at_front steps (n ∷ []) a.0 m a.1)
  ];
  levelled = λ m a. elim (at_split steps n a.0 m a.1) [
    | inl b ↦
        let has = so.levelled m (a.0, b) in
        let stays = level_stays sources n t u made m has in
        omega (arith, has, stays)
    | inr p ↦ subst (λ (k : ℕ). 0 < slice_index u k) (sym p.1) made.some
  ];
  once = λ i j m a b. alone i j m (at_split steps n i m a) (at_split steps n j m b);
  follows = λ from to k a arc. comes from to k (at_split steps n k to a) arc;
}
  where
    not_yet : (i : ℕ) → ¬ At steps i n
    not_yet i a = let has = so.levelled n (i, a) in let none = made.none in omega (arith, has, none)

    apart : (i j m : ℕ) → At steps i m → (j ≡ length steps) × (m ≡ n) → i ≡ j
    apart i j m a p = absurd (not_yet i (subst (λ (k : ℕ). At steps i k) p.1 a))

    alone : (i j m : ℕ) → At steps i m ⊎ ((i ≡ length steps) × (m ≡ n)) → At steps j m ⊎ ((j ≡ length steps) × (m ≡ n)) → i ≡ j
    alone i j m (inl a) (inl b) = so.once i j m a b
    alone i j m (inl a) (inr q) = apart i j m a q
    alone i j m (inr p) (inl b) = sym (apart j i m b p)
    alone i j m (inr p) (inr q) = p.0 ∙ sym q.0

    comes : (from to k : ℕ) → At steps k to ⊎ ((k ≡ length steps) × (to ≡ n)) → ArcIn sources from to → (j : ℕ) × (j < k) × At (steps ++ n ∷ []) j from
    comes from to k (inl a) arc = let q = so.follows from to k a arc in (q.0, q.1, at_front steps (n ∷ []) q.0 from q.2)
    comes from to k (inr p) arc =
        let own : Among (sources_at sources n) from = subst (λ (x : ℕ). ArcIn sources from x) p.1 arc in
        let q = so.listed from (made.above from own).0 in
        let less = slice_get_within steps q.0 from q.1 in
        let place = p.0 in
        (q.0, omega (arith, less, place), at_front steps (n ∷ []) q.0 from q.1)

-- ---- all numbers have levels, or arcs lead around

pub order_is : (sources : List (List ℕ)) (levels steps : List ℕ) → length levels ≡ length sources → AreLevels sources levels → IsPlacing sources levels steps
    → list_all (λ l. nat_lt 0 l) levels ≡ true → IsOrder sources steps
order_is sources levels steps size are so all = record {
  lists = record {
    all = λ n lt. so.listed n (has n lt);
    below = λ n a. let inside = index_within levels n (so.levelled n a) in omega (arith, inside, size);
    once = so.once;
  };
  follows = so.follows;
  acyclic = rises_acyclic (ArcIn sources) (slice_index levels) (λ from to arc. (are.above to from arc (has to (arc_within sources from to arc))).1);
}
  where
    has : (n : ℕ) → n < length sources → 0 < slice_index levels n
    has n lt = levels_all levels all n (omega (arith, lt, size))

pub stuck_around : (sources : List (List ℕ)) (levels : List ℕ) → AreInside sources → length levels ≡ length sources → AreStuck sources levels
    → list_all (λ l. nat_lt 0 l) levels ≡ false → ((nodes : List ℕ) → ¬ IsCycle (ArcIn sources) nodes) → ⊥
stuck_around sources levels inside size stuck some acyclic =
    let first = levels_none levels some in
    let lt = first.1 in
    none_behind (ArcIn sources) (length sources) acyclic (λ (n : ℕ). (n < length sources) × (slice_index levels n ≡ 0)) (λ n p. p.0)
    (λ n p. let from = stuck n p.0 p.1 in (from.0, (inside from.0 n from.1, from.2), from.1)) first.0 (omega (arith, lt, size), first.2)
