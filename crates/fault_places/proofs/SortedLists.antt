-- Lists sorted by lists of numbers: joined, and made item by item.
use Rattle.std.proofs.Common.{◌≡◌, ℕ, zero, suc, ◌<◌, ◌≤◌, ◌&&◌, true, List, [], ◌∷◌, ◌++◌, length, arith, subst, sym, refl, ◌∙◌, inl, inr, ap}
use Rattle.std.specs.Prelude.{flat_map, nat_eq, nat_lt}
use Rattle.std.proofs.lemmas.Bool.{and_from, and_parts, eq-eqb, false≢true, or_cases, or_left, or_right}
use Rattle.std.proofs.lemmas.List.{append_assoc}
use Rattle.std.proofs.lemmas.Option.{same_Some, slice_get_within}
use Rattle.fault_places.specs.PhaseSpots.{IsRising, IsSortedBy}
use Rattle.vrt_model.proofs.Members.{among_either, among_flat_map, among_later, at_none}
use Rattle.vrt_model.specs.Lists.{Among}
use Rattle.vrt_model.specs.Places.{comes_before}
use Rattle.vrt_model.proofs.FirstFinding.{less_head}
use Rattle.vrt_model.proofs.Lists.{at_either}

-- ---- lists of numbers

-- what decides at the front decides
front_before : (xs ys us vs : List ℕ) → comes_before xs ys ≡ true → comes_before (xs ++ us) (ys ++ vs) ≡ true
front_before [] ys us vs e = absurd (false≢true e)
front_before (x ∷ xs) [] us vs e = absurd (false≢true e)
front_before (x ∷ xs) (y ∷ ys) us vs e =
    elim (or_cases (nat_lt x y) (nat_eq x y && comes_before xs ys) e) [
      | inl t ↦ or_left (nat_lt x y) (nat_eq x y && comes_before (xs ++ us) (ys ++ vs)) t
      | inr t ↦
          let p = and_parts (nat_eq x y) (comes_before xs ys) t in
          or_right (nat_lt x y) (nat_eq x y && comes_before (xs ++ us) (ys ++ vs))
          (and_from (nat_eq x y) (comes_before (xs ++ us) (ys ++ vs)) p.0 (front_before xs ys us vs p.1))
    ]

-- behind the same front the rest decides
pub behind_front : (p xs ys : List ℕ) → comes_before xs ys ≡ true → comes_before (p ++ xs) (p ++ ys) ≡ true
behind_front [] xs ys e = e
behind_front (n ∷ p) xs ys e =
    or_right (nat_lt n n) (nat_eq n n && comes_before (p ++ xs) (p ++ ys))
    (and_from (nat_eq n n) (comes_before (p ++ xs) (p ++ ys)) (eq-eqb n n refl) (behind_front p xs ys e))

pub rising_sorted : (xs : List ℕ) → IsRising xs → IsSortedBy (λ (n : ℕ). n ∷ []) xs
rising_sorted xs rising i j x y a b lt = less_head x y [] [] (rising i j x y a b lt)

-- ---- items

-- two sorted lists, all of the first before all of the second
joined : {Y : Type 0} (key : Y → List ℕ) (xs ys : List Y) → IsSortedBy key xs → IsSortedBy key ys
    → ((x y : Y) → Among xs x → Among ys y → comes_before (key x) (key y) ≡ true) → IsSortedBy key (xs ++ ys)
joined key xs ys one two cross i j x y a b lt =
    elim (at_either xs ys i x a) [
      | inl p ↦ elim (at_either xs ys j y b) [
        | inl q ↦ one i j x y p q lt
        | inr q ↦ cross x y (i, p) (q.0, q.2)
      ]
      | inr p ↦ elim (at_either xs ys j y b) [
        | inl q ↦ absurd (let within : j < length xs = slice_get_within xs j y q in let is = p.1 in omega (arith, within, is, lt))
        | inr q ↦ two p.0 q.0 x y p.2 q.2 (let is = p.1 in let also = q.1 in omega (arith, is, also, lt))
      ]
    ]

-- a sorted list whose items all have the same front
pub record IsUnder {Y : Type 0} (key : Y → List ℕ) (front : List ℕ) (ys : List Y) : Type 0 where
  pub sorted : IsSortedBy key ys
  pub under : (y : Y) → Among ys y → (rest : List ℕ) × (key y ≡ front ++ rest)

nothing : {Y : Type 0} (key : Y → List ℕ) (front : List ℕ) → IsUnder key front []
nothing key front = record { sorted = λ i j x y a b lt. absurd (at_none i x a); under = λ y m. absurd (at_none m.0 y m.1) }

pub single : {Y : Type 0} (key : Y → List ℕ) (front : List ℕ) (a : Y) (r : List ℕ) → key a ≡ front ++ r → IsUnder key front (a ∷ [])
single {Y} key front a r e = record { sorted = sorted_one; under = under_one }
  where
    sorted_one : IsSortedBy key (a ∷ [])
    sorted_one i zero x y p q lt = absurd (omega (arith, lt))
    sorted_one i (suc j) x y p q lt = absurd (at_none j y q)

    under_one : (y : Y) → Among (a ∷ []) y → (rest : List ℕ) × (key y ≡ front ++ rest)
    under_one y (zero, p) = (r, ap key (sym (same_Some a y p)) ∙ e)
    under_one y (suc i, p) = absurd (at_none i y p)

-- two such lists with the same front, all of the first before all of the second
under_both : {Y : Type 0} (key : Y → List ℕ) (front : List ℕ) (xs ys : List Y) → IsUnder key front xs → IsUnder key front ys
    → ((x y : Y) → Among xs x → Among ys y → comes_before (key x) (key y) ≡ true) → IsUnder key front (xs ++ ys)
under_both key front xs ys one two cross = record {
  sorted = joined key xs ys one.sorted two.sorted cross;
  under = λ y m. elim (among_either xs ys y m) [ inl n ↦ one.under y n | inr n ↦ two.under y n ];
}

-- fronts that differ decide
apart : {Y : Type 0} (key : Y → List ℕ) (f g : List ℕ) (xs ys : List Y) → IsUnder key f xs → IsUnder key g ys → comes_before f g ≡ true
    → (x y : Y) → Among xs x → Among ys y → comes_before (key x) (key y) ≡ true
apart key f g xs ys one two e x y m n =
    let a = one.under x m in
    let b = two.under y n in
    subst (λ (l : List ℕ). comes_before l (key y) ≡ true) (sym a.1)
    (subst (λ (l : List ℕ). comes_before (f ++ a.0) l ≡ true) (sym b.1) (front_before f g a.0 b.0 e))

-- a longer front has the shorter
shorter : {Y : Type 0} (key : Y → List ℕ) (p q : List ℕ) (ys : List Y) → IsUnder key (p ++ q) ys → IsUnder key p ys
shorter key p q ys u = record { sorted = u.sorted; under = λ y m. let a = u.under y m in (q ++ a.0, a.1 ∙ append_assoc p q a.0) }

pub pair : {Y : Type 0} (key : Y → List ℕ) (front : List ℕ) (a b : Y) (r s : List ℕ) → key a ≡ front ++ r → key b ≡ front ++ s → comes_before r s ≡ true
    → IsUnder key front (a ∷ b ∷ [])
pair {Y} key front a b r s d e lt =
    let one = single key front a r d in
    let two = single key front b s e in
    under_both key front (a ∷ []) (b ∷ []) one two cross
  where
    cross : (x y : Y) → Among (a ∷ []) x → Among (b ∷ []) y → comes_before (key x) (key y) ≡ true
    cross x y (zero, p) (zero, q) =
        subst (λ (z : Y). comes_before (key z) (key y) ≡ true) (same_Some a x p)
        (subst (λ (z : Y). comes_before (key a) (key z) ≡ true) (same_Some b y q)
        (subst (λ (l : List ℕ). comes_before l (key b) ≡ true) (sym d)
        (subst (λ (l : List ℕ). comes_before (front ++ r) l ≡ true) (sym e) (behind_front front r s lt))))
    cross x y (suc i, p) n = absurd (at_none i x p)
    cross x y (zero, p) (suc j, q) = absurd (at_none j y q)

-- a list that is made from a sorted one, where the items made from one have its key behind the front
pub nested : {X Y : Type 0} (f : X → List Y) (outer : X → List ℕ) (key : Y → List ℕ) (front : List ℕ) (xs : List X) → IsSortedBy outer xs
    → ((x : X) → Among xs x → IsUnder key (front ++ outer x) (f x)) → IsUnder key front (flat_map f xs)
nested f outer key front [] sorted each = nothing key front
nested {X} {Y} f outer key front (x ∷ xs) sorted each =
    under_both key front (f x) (flat_map f xs) (shorter key front (outer x) (f x) (each x (zero, refl)))
    (nested f outer key front xs (λ i j y z a b lt. sorted (suc i) (suc j) y z a b (omega (arith, lt))) (λ y m. each y (among_later x xs y m)))
    cross
  where
    cross : (y z : Y) → Among (f x) y → Among (flat_map f xs) z → comes_before (key y) (key z) ≡ true
    cross y z m n =
        let from = among_flat_map f xs z n in
        let w : X = from.0 in
        let lt : comes_before (outer x) (outer w) ≡ true = sorted zero (suc from.1.0) x w refl from.1.1 (omega arith) in
        apart key (front ++ outer x) (front ++ outer w) (f x) (f w) (each x (zero, refl)) (each w (among_later x xs w from.1))
        (behind_front front (outer x) (outer w) lt) y z m from.2

-- ---- stages: lists whose first numbers lie in a range

pub record IsStage {Y : Type 0} (key : Y → List ℕ) (low high : ℕ) (ys : List Y) : Type 0 where
  pub sorted : IsSortedBy key ys
  pub first : (y : Y) → Among ys y → (s : ℕ) × (rest : List ℕ) × (low ≤ s) × (s < high) × (key y ≡ s ∷ rest)

pub one_stage : {Y : Type 0} (key : Y → List ℕ) (s : ℕ) (ys : List Y) → IsUnder key (s ∷ []) ys → IsStage key s (suc s) ys
one_stage key s ys u = record {
  sorted = u.sorted;
  first = λ y m. let a = u.under y m in (s, a.0, omega arith, omega arith, a.1);
}

pub stages : {Y : Type 0} (key : Y → List ℕ) (a b c : ℕ) (xs ys : List Y) → a ≤ b → b ≤ c → IsStage key a b xs → IsStage key b c ys → IsStage key a c (xs ++ ys)
stages {Y} key a b c xs ys ab bc one two = record {
  sorted = joined key xs ys one.sorted two.sorted cross;
  first = λ y m. elim (among_either xs ys y m) [
    | inl n ↦ (let f = one.first y n in (f.0, f.1, f.2, (let lt = f.3 in omega (arith, lt, bc)), f.4))
    | inr n ↦ (let f = two.first y n in (f.0, f.1, (let le = f.2 in omega (arith, le, ab)), f.3, f.4))
  ];
}
  where
    cross : (x y : Y) → Among xs x → Among ys y → comes_before (key x) (key y) ≡ true
    cross x y m n =
        let f = one.first x m in
        let g = two.first y n in
        let lt : f.0 < g.0 = (let high = f.3 in let low = g.2 in omega (arith, high, low)) in
        subst (λ (l : List ℕ). comes_before l (key y) ≡ true) (sym f.4)
        (subst (λ (l : List ℕ). comes_before (f.0 ∷ f.1) l ≡ true) (sym g.4) (less_head f.0 g.0 f.1 g.1 lt))
