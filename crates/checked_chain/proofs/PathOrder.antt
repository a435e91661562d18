-- A place stands before those inside it: paths as lists of names, and the places of an unrolled cell in their order.
use Rattle.std.proofs.Common.{◌≡◌, ℕ, zero, suc, ◌+◌, ◌-◌, ◌<◌, ◌≤◌, ◌++◌, true, List, [], ◌∷◌, length, map, drop, arith, sym, refl, ◌∙◌, ap, ap₂, inl, inr, length-append}
use Rattle.std.specs.Prelude.{bytes_eq, flat_map, nat_lt}
use Rattle.std.proofs.lemmas.Bool.{and_from, and_parts, false≢true}
use Rattle.std.proofs.lemmas.Bool.Decides.{nat_tests}
use Rattle.std.proofs.lemmas.List.{drop-append-le}
use Rattle.std.proofs.lemmas.Option.{same_Some, slice_get_within}
use Rattle.std.proofs.lemmas.Slice.Eq.{bytes_eq-Decides}
use Rattle.place_paths.proofs.PathLaws.{cards_apart, path_on, path_over}
use Rattle.place_paths.specs.Paths.{same_card, step_at}
use Rattle.vrt_model.proofs.Lists.{at_either}
use Rattle.vrt_model.proofs.Members.{at_none}
use Rattle.vrt_model.specs.Comparison.{cell_at}
use Rattle.vrt_model.specs.Cut.{is_inside}
use Rattle.vrt_model.specs.FlatCircuit.{same_path}
use Rattle.vrt_model.specs.Inputs.{AllApart, IsDesign}
use Rattle.vrt_model.specs.Lists.{At, Among}
use Rattle.vrt_model.specs.Unrolled.{Place, Step, Top, all_places, cell_named, deepest, instances_from, net_at, own_count, own_nets, places_in, top_place}
use Rattle.vrt_model.specs.declared.design.InstanceCard.{InstanceCard}

-- ---- paths as names

abbrev pub Names : Type 0
Names = List (List ℕ)

-- the names on a path, the innermost first
abbrev pub path_names : List Step → Names
path_names [] = []
path_names (step ∷ steps) = step.instance ∷ path_names steps

pub names_same : (xs ys : List Step) → same_path xs ys ≡ true → path_names xs ≡ path_names ys
names_same [] [] e = refl
names_same [] (y ∷ ys) e = absurd (false≢true e)
names_same (x ∷ xs) [] e = absurd (false≢true e)
names_same (x ∷ xs) (y ∷ ys) e =
    let both = and_parts (bytes_eq x.instance y.instance) (same_path xs ys) e in
    ap₂ (λ (n : List ℕ) (ns : Names). n ∷ ns) ((bytes_eq-Decides x.instance y.instance).0 both.0) (names_same xs ys both.1)

abbrev head_of : Names → List ℕ
head_of [] = []
head_of (n ∷ ns) = n

abbrev tail_of : Names → Names
tail_of [] = []
tail_of (n ∷ ns) = ns

same_from_names : (xs ys : List Step) → path_names xs ≡ path_names ys → same_path xs ys ≡ true
same_from_names [] [] e = refl
same_from_names [] (y ∷ ys) e = absurd (let n = ap (λ (ns : Names). length ns) e in omega (arith, n))
same_from_names (x ∷ xs) [] e = absurd (let n = ap (λ (ns : Names). length ns) e in omega (arith, n))
same_from_names (x ∷ xs) (y ∷ ys) e =
    and_from (bytes_eq x.instance y.instance) (same_path xs ys) ((bytes_eq-Decides x.instance y.instance).1 (ap head_of e)) (same_from_names xs ys (ap tail_of e))

names_long : (xs : List Step) → length (path_names xs) ≡ length xs
names_long [] = refl
names_long (x ∷ xs) = ap suc (names_long xs)

names_joined : (xs ys : List Step) → path_names (xs ++ ys) ≡ path_names xs ++ path_names ys
names_joined [] ys = refl
names_joined (x ∷ xs) ys = ap (λ (ns : Names). x.instance ∷ ns) (names_joined xs ys)

names_dropped : (k : ℕ) (xs : List Step) → path_names (drop k xs) ≡ drop k (path_names xs)
names_dropped zero xs = refl
names_dropped (suc k) [] = refl
names_dropped (suc k) (x ∷ xs) = names_dropped k xs

pub dropped_twice : {X : Type 0} (k m : ℕ) (xs : List X) → drop k (drop m xs) ≡ drop (m + k) xs
dropped_twice k zero xs = let n : k ≡ 0 + k = omega arith in ap (λ (i : ℕ). drop i xs) n
dropped_twice {X} k (suc m) [] = nothing k ∙ sym (nothing (suc m + k))
  where
    nothing : (n : ℕ) → drop {A = X} n [] ≡ []
    nothing zero = refl
    nothing (suc n) = refl
dropped_twice k (suc m) (x ∷ xs) = let n : suc (m + k) ≡ suc m + k = omega arith in dropped_twice k m xs ∙ ap (λ (i : ℕ). drop i (x ∷ xs)) n

-- ---- one path ends with another

abbrev pub names_at : Place → Names
names_at at = path_names at.path

-- the path of a place ends with that of another
pub record EndsWith (inner outer : Names) : Type 0 where
  pub long : length outer ≤ length inner
  pub same : drop (length inner - length outer) inner ≡ outer

pub ends_inside : (inner outer : Place) → is_inside inner outer ≡ true → (length (names_at outer) < length (names_at inner)) × EndsWith (names_at inner) (names_at outer)
ends_inside inner outer e =
    let far : ℕ = length inner.path - length outer.path in
    let both = and_parts (nat_lt (length outer.path) (length inner.path)) (same_path (drop far inner.path) outer.path) e in
    let test = both.0 in
    let lt : length outer.path < length inner.path = grind (arith, nat_tests, test) in
    let a = names_long inner.path in
    let b = names_long outer.path in
    let distance : length (names_at inner) - length (names_at outer) ≡ far = ap₂ ◌-◌ a b in (
      omega (arith, lt, a, b),
      record {
        long = omega (arith, lt, a, b);
        same = ap (λ (k : ℕ). drop k (names_at inner)) distance ∙ sym (names_dropped far inner.path) ∙ names_same (drop far inner.path) outer.path both.1;
      },
    )

pub inside_ends : (inner outer : Place) → length (names_at outer) < length (names_at inner) → EndsWith (names_at inner) (names_at outer) → is_inside inner outer ≡ true
inside_ends inner outer more h =
    let far : ℕ = length inner.path - length outer.path in
    let a = names_long inner.path in
    let b = names_long outer.path in
    let lt : length outer.path < length inner.path = omega (arith, more, a, b) in
    let distance : far ≡ length (names_at inner) - length (names_at outer) = ap₂ ◌-◌ (sym a) (sym b) in
    let test : nat_lt (length outer.path) (length inner.path) ≡ true = grind (arith, nat_tests, lt) in
    and_from (nat_lt (length outer.path) (length inner.path)) (same_path (drop far inner.path) outer.path) test
    (same_from_names (drop far inner.path) outer.path (names_dropped far inner.path ∙ ap (λ (k : ℕ). drop k (names_at inner)) distance ∙ h.same))

-- of two paths with which one ends, the longer ends with the other
pub ends_compared : (inner middle outer : Names) → EndsWith inner middle → EndsWith inner outer → length outer ≤ length middle → EndsWith middle outer
ends_compared inner middle outer a b le = record {
  long = le;
  same =
      ap (λ (ns : Names). drop (length middle - length outer) ns) (sym a.same)
      ∙ dropped_twice (length middle - length outer) (length inner - length middle) inner
      ∙ ap (λ (k : ℕ). drop k inner) (far (length inner) (length middle) (length outer) a.long le) ∙ b.same;
}
  where
    far : (x y z : ℕ) → y ≤ x → z ≤ y → (x - y) + (y - z) ≡ x - z
    far x y z p q = omega (arith, p, q)

-- two paths that go on from one name each before the same rest go on from the same name, where the one ends with the other
same_name : (xs ys : Names) (a b : List ℕ) (rest : Names) → xs ++ a ∷ rest ≡ ys ++ b ∷ rest → a ≡ b
same_name [] [] a b rest e = ap head_of e
same_name [] (y ∷ ys) a b rest e =
    absurd (let n = ap (λ (ns : Names). length ns) e in let m = length-append ys (b ∷ rest) in omega (arith, n, m))
same_name (x ∷ xs) [] a b rest e =
    absurd (let n = ap (λ (ns : Names). length ns) e in let m = length-append xs (a ∷ rest) in omega (arith, n, m))
same_name (x ∷ xs) (y ∷ ys) a b rest e = same_name xs ys a b rest (ap tail_of e)

one_name : (xs ys : Names) (a b : List ℕ) (rest inner outer : Names) → inner ≡ xs ++ a ∷ rest → outer ≡ ys ++ b ∷ rest → EndsWith inner outer → a ≡ b
one_name xs ys a b rest inner outer p q h =
    let s : ℕ = length inner - length outer in
    let li = ap (λ (ns : Names). length ns) p in
    let lo = ap (λ (ns : Names). length ns) q in
    let lx = length-append xs (a ∷ rest) in
    let ly = length-append ys (b ∷ rest) in
    let short : s ≤ length xs = few (length inner) (length outer) (length xs) (length ys) (length rest) (li ∙ lx) (lo ∙ ly) in
    same_name (drop s xs) ys a b rest (sym (drop-append-le s xs (a ∷ rest) short) ∙ ap (λ (ns : Names). drop s ns) (sym p) ∙ h.same ∙ q)
  where
    few : (i o x y r : ℕ) → i ≡ x + suc r → o ≡ y + suc r → i - o ≤ x
    few i o x y r e f = omega (arith, e, f)

-- ---- places in their order

module _ (t : Top) where
  -- the place of an instance card
  abbrev card_place : Place → ℕ → InstanceCard → Place
  card_place at base card = record {
    cell = cell_named t.design card.cell;
    path = record { instance = card.name; within = (cell_at t.design at.cell).name } ∷ at.path;
    ports = map (net_at t at) card.nets;
    base = base;
  }

  -- a place whose path goes on from these names
  abbrev IsThrough : Names → Place → Type 0
  IsThrough names at = (front : Names) × (names_at at ≡ front ++ names)

  -- a place in one of these cards
  abbrev IsInCard : Place → List InstanceCard → Place → Type 0
  IsInCard at cards inner = (k : ℕ) × (card : InstanceCard) × At cards k card × IsThrough (card.name ∷ names_at at) inner

  through : (depth : ℕ) (at inner : Place) → Among (places_in t depth at) inner → IsThrough (names_at at) inner
  through depth at inner m =
      let on = path_on t depth at inner m in
      (path_names on.0, ap path_names on.1 ∙ names_joined on.0 at.path)

  in_card : (depth : ℕ) (at : Place) (base : ℕ) (cards : List InstanceCard) (inner : Place) (i : ℕ) → At (flat_map (places_in t depth) (instances_from t at depth base cards)) i inner → IsInCard at cards inner
  in_card depth at base cards inner i e =
      let over = path_over t depth at base cards inner (i, e) in
      (over.1.0, over.0, over.1.1, (path_names over.2, ap path_names over.3 ∙ names_joined over.2 (step_at t at over.0 ∷ at.path)))

  -- in a list of places none stands before one with which its path ends
  abbrev IsOrderedBy : List Place → Type 0
  IsOrderedBy places = (i j : ℕ) (x y : Place) → At places i x → At places j y → EndsWith (names_at x) (names_at y) → j ≤ i

  cards_ordered : (depth : ℕ) → ((at : Place) → IsOrderedBy (places_in t depth at)) → (at : Place) (base : ℕ) (cards : List InstanceCard) → AllApart same_card cards
      → IsOrderedBy (flat_map (places_in t depth) (instances_from t at depth base cards))
  cards_ordered depth each at base [] apart i j x y here there ends = absurd (at_none i x here)
  cards_ordered depth each at base (card ∷ cards) apart i j x y here there ends =
      elim (at_either first behind i x here) [
        | inl hx ↦ elim (at_either first behind j y there) [
          | inl hy ↦ each (card_place at base card) i j x y hx hy ends
          | inr hy ↦ absurd (
              let p = through depth (card_place at base card) x (i, hx) in
              let q = in_card depth at next cards y hy.0 hy.2 in
              let name = one_name p.0 q.3.0 card.name q.1.name (names_at at) (names_at x) (names_at y) p.1 q.3.1 ends in
              let e = apart 0 (suc q.0) card q.1 refl q.2 ((bytes_eq-Decides card.name q.1.name).1 name) in
              omega (arith, e))
        ]
        | inr hx ↦ elim (at_either first behind j y there) [
          | inl hy ↦ let low = slice_get_within first j y hy in let ix = hx.1 in omega (arith, low, ix)
          | inr hy ↦
              let le = cards_ordered depth each at next cards (λ a b c d e f g. let k = apart (suc a) (suc b) c d e f g in omega (arith, k)) hx.0 hy.0 x y hx.2 hy.2 ends in
              let ix = hx.1 in
              let jy = hy.1 in
              omega (arith, le, ix, jy)
        ]
      ]
    where
      next : ℕ
      next = base + own_count t.design t.rules depth (cell_at t.design (cell_named t.design card.cell))

      first : List Place
      first = places_in t depth (card_place at base card)

      behind : List Place
      behind = flat_map (places_in t depth) (instances_from t at depth next cards)

  module _ (is : IsDesign t.design) where
    ordered : (depth : ℕ) (at : Place) → IsOrderedBy (places_in t depth at)
    ordered zero at zero zero x y here there ends = omega arith
    ordered zero at zero (suc j) x y here there ends = absurd (at_none j y there)
    ordered zero at (suc i) j x y here there ends = absurd (at_none i x here)
    ordered (suc depth) at zero zero x y here there ends = omega arith
    ordered (suc depth) at (suc i) zero x y here there ends = omega arith
    ordered (suc depth) at zero (suc j) x y here there ends =
        absurd (
        let q = in_card depth at (at.base + length (own_nets t.design t.rules (cell_at t.design at.cell))) (cell_at t.design at.cell).instances y j there in
        let same = ap (λ (p : Place). length (names_at p)) (same_Some at x here) in
        let long = ap (λ (ns : Names). length ns) q.3.1 in
        let sum = length-append q.3.0 (q.1.name ∷ names_at at) in
        let le = ends.long in
        omega (arith, same, long, sum, le))
    ordered (suc depth) at (suc i) (suc j) x y here there ends =
        let le = cards_ordered depth (ordered depth) at (at.base + length (own_nets t.design t.rules (cell_at t.design at.cell))) (cell_at t.design at.cell).instances (cards_apart t.design is at.cell) i j x y here there ends in
        omega (arith, le)

    -- a place does not stand before one with which its path ends
    pub not_before : IsOrderedBy (all_places t)
    unfolding all_places
    not_before = ordered deepest (top_place t)
