-- Laws of lists: what stands at a place, and what is made of a list. What `std` has is not stated again: `slice_get_within`,
-- `slice_get_cases`, `map-append`, `filter-append`, `filter_map-append`, `list_any-append`, `length-set`.
use Rattle.std.proofs.Common.{◌≡◌, ℕ, zero, suc, ◌+◌, ◌<◌, ◌⊎◌, ◌&&◌, ◌||◌, Bool, true, false, cond, List, [], ◌∷◌, ◌++◌, length, map, take, drop, replicate, get_or, Option, Some, None, append_assoc, append-nil, arith, ap, ap₂, sym, subst, refl, ◌∙◌, inl, inr}
use Rattle.std.specs.Prelude.{filter, option_map}
use Rattle.std.specs.List.{cons_option, filter_map, list_any}
use Rattle.std.proofs.Math.Bool.{and_comm}
use Rattle.std.proofs.lemmas.Bool.{cases_lt}
use Rattle.std.proofs.lemmas.List.{drop_more, get_or-replicate, get_or_past, length-replicate, take_more}
use Rattle.std.proofs.lemmas.Option.{get_or_from_slice_get, none-some, same_Some, slice_get-get_or, slice_get-map, slice_get_within}
use Rattle.vrt_model.proofs.Members.{among_later}
use Rattle.vrt_model.specs.Lists.{At, Among, mark_at}

-- ---- places

-- the item of a turn stands at its place in the list that the slice shows
pub item_at : {X : Type 0} (xs ys : List X) (i : ℕ) (x : X) → ys ≡ xs → i < length ys → x ≡ get_or ys i x → At xs i x
item_at {X} xs ys i x same lt is = subst (λ (zs : List X). At zs i x) same (slice_get-get_or ys i x lt ∙ ap Some (sym is))

-- at each place below the length something stands, and one thing alone
pub at_there : {X : Type 0} (xs : List X) (i : ℕ) → i < length xs → (x : X) × At xs i x
at_there [] i lt = absurd (omega (arith, lt))
at_there (x ∷ xs) zero lt = (x, refl)
at_there (x ∷ xs) (suc i) lt = at_there xs i (omega (arith, lt))

pub one_at : {X : Type 0} (xs : List X) (i : ℕ) (x y : X) → At xs i x → At xs i y → x ≡ y
one_at xs i x y e f = same_Some x y (sym e ∙ f)

-- a list of no length has no item
pub no_items : {X : Type 0} (xs : List X) → length xs ≡ 0 → xs ≡ []
no_items [] e = refl
no_items (x ∷ xs) e = absurd (omega (arith, e))

-- ---- lists behind one another

pub at_front : {X : Type 0} (xs ys : List X) (i : ℕ) (x : X) → At xs i x → At (xs ++ ys) i x
at_front [] ys i x e = absurd (none-some x e)
at_front (y ∷ xs) ys zero x e = e
at_front (y ∷ xs) ys (suc i) x e = at_front xs ys i x e

pub at_back : {X : Type 0} (xs ys : List X) (i : ℕ) (x : X) → At ys i x → At (xs ++ ys) (length xs + i) x
at_back [] ys i x e = let h : i ≡ 0 + i = omega arith in subst (λ n. At ys n x) h e
at_back (y ∷ xs) ys i x e =
    let h : suc (length xs + i) ≡ suc (length xs) + i = omega arith in subst (λ n. At (y ∷ xs ++ ys) n x) h (at_back xs ys i x e)

-- what stands below the length of the first list stands in it
pub at_left : {X : Type 0} (xs ys : List X) (i : ℕ) (x : X) → i < length xs → At (xs ++ ys) i x → At xs i x
at_left [] ys i x lt e = absurd (omega (arith, lt))
at_left (z ∷ xs) ys zero x lt e = e
at_left (z ∷ xs) ys (suc i) x lt e = at_left xs ys i x (omega (arith, lt)) e

-- what stands in two lists stands in the first, or in the second so far behind it
pub at_either : {X : Type 0} (xs ys : List X) (i : ℕ) (x : X) → At (xs ++ ys) i x → At xs i x ⊎ ((j : ℕ) × (i ≡ length xs + j) × At ys j x)
at_either [] ys i x e = inr (i, omega arith, e)
at_either (z ∷ xs) ys zero x e = inl e
at_either (z ∷ xs) ys (suc i) x e = elim (at_either xs ys i x e) [ inl a ↦ inl a | inr b ↦ inr (b.0, (let is = b.1 in omega (arith, is)), b.2) ]

pub at_last : {X : Type 0} (xs : List X) (x : X) → At (xs ++ x ∷ []) (length xs) x
at_last [] x = refl
at_last (y ∷ xs) x = at_last xs x

-- what stands in a list with one more stood there before, or is the last
pub at_split : {X : Type 0} (xs : List X) (y : X) (i : ℕ) (x : X) → At (xs ++ y ∷ []) i x → At xs i x ⊎ ((i ≡ length xs) × (x ≡ y))
at_split [] y zero x e = inr (refl, sym (same_Some y x e))
at_split [] y (suc i) x e = absurd (none-some x e)
at_split (z ∷ xs) y zero x e = inl e
at_split (z ∷ xs) y (suc i) x e = elim (at_split xs y i x e) [ inl a ↦ inl a | inr p ↦ inr (ap suc p.0, p.1) ]

-- an item more or none, and those that are left
pub pushed : {X : Type 0} (list : List X) (o : Option X) (ys : List X) → (list ++ cons_option o []) ++ ys ≡ list ++ cons_option o ys
pushed list None ys = ap (λ l. l ++ ys) (append-nil list)
pushed list (Some x) ys = append_assoc list (x ∷ []) ys

-- the same by a test
pub chosen : {X : Type 0} (list : List X) (b : Bool) (x : X) (ys : List X) → (list ++ cond b (x ∷ []) []) ++ ys ≡ list ++ cond b (x ∷ ys) ys
chosen list true x ys = append_assoc list (x ∷ []) ys
chosen list false x ys = ap (λ l. l ++ ys) (append-nil list)

-- ---- the front of a list and the rest

pub take_one : {X : Type 0} (xs : List X) (i : ℕ) (x : X) → At xs i x → take (i + 1) xs ≡ take i xs ++ x ∷ []
take_one xs i x here = take_more xs i x (slice_get_within xs i x here) ∙ ap (λ t. take i xs ++ t ∷ []) (get_or_from_slice_get xs i x x here)

pub drop_one : {X : Type 0} (xs : List X) (i : ℕ) (x : X) → At xs i x → drop i xs ≡ x ∷ drop (i + 1) xs
drop_one xs i x here = drop_more xs i x (slice_get_within xs i x here) ∙ ap (λ t. t ∷ drop (i + 1) xs) (get_or_from_slice_get xs i x x here)

-- ---- what is made of each item

pub map_at : {X Y : Type 0} (f : X → Y) (xs : List X) (i : ℕ) (x : X) → At xs i x → At (map f xs) i (f x)
map_at f xs i x e = slice_get-map f xs i ∙ ap (option_map f) e

pub at_map : {X Y : Type 0} (f : X → Y) (xs : List X) (i : ℕ) (y : Y) → At (map f xs) i y → (x : X) × At xs i x × (f x ≡ y)
at_map f [] i y e = absurd (none-some y e)
at_map f (x ∷ xs) zero y e = (x, refl, same_Some (f x) y e)
at_map f (x ∷ xs) (suc i) y e = at_map f xs i y e

pub map_among : {X Y : Type 0} (f : X → Y) (xs : List X) (x : X) → Among xs x → Among (map f xs) (f x)
map_among f xs x m = (m.0, map_at f xs m.0 x m.1)

-- two functions that agree on the items make the same list
pub map_same : {X Y : Type 0} (f g : X → Y) (xs : List X) → ((i : ℕ) (x : X) → At xs i x → f x ≡ g x) → map f xs ≡ map g xs
map_same f g [] h = refl
map_same {X} {Y} f g (x ∷ xs) h = ap₂ (λ (y : Y) (ys : List Y). y ∷ ys) (h 0 x refl) (map_same f g xs (λ i y e. h (suc i) y e))

-- ---- what is made of some items

-- what is made comes from an item
pub among_filter_map : {X Y : Type 0} (f : X → Option Y) (xs : List X) (y : Y) → Among (filter_map f xs) y → (x : X) × Among xs x × (f x ≡ Some y)
among_filter_map f [] y m = absurd (none-some y m.1)
among_filter_map {X} {Y} f (z ∷ zs) y m = pick (f z) refl (λ k. among_filter_map f zs y k) m
  where
    later : (x : X) × Among zs x × (f x ≡ Some y) → (x : X) × Among (z ∷ zs) x × (f x ≡ Some y)
    later h = (h.0, among_later z zs h.0 h.1, h.2)

    pick : (o : Option Y) → f z ≡ o → (Among (filter_map f zs) y → (x : X) × Among zs x × (f x ≡ Some y))
        → Among (cons_option o (filter_map f zs)) y → (x : X) × Among (z ∷ zs) x × (f x ≡ Some y)
    pick None e below m = later (below m)
    pick (Some w) e below (zero, here) = (z, (0, refl), e ∙ here)
    pick (Some w) e below (suc i, here) = later (below (i, here))

-- and what an item gives is made
pub filter_map_among : {X Y : Type 0} (f : X → Option Y) (xs : List X) (i : ℕ) (x : X) (y : Y) → At xs i x → f x ≡ Some y → Among (filter_map f xs) y
filter_map_among f [] i x y here e = absurd (none-some x here)
filter_map_among {X} {Y} f (z ∷ zs) zero x y here e =
    let first : f z ≡ Some y = ap f (same_Some z x here) ∙ e in
    subst (λ (o : Option Y). Among (cons_option o (filter_map f zs)) y) (sym first) (0, refl)
filter_map_among {X} {Y} f (z ∷ zs) (suc i) x y here e = behind (f z) (filter_map_among f zs i x y here e)
  where
    behind : (o : Option Y) → Among (filter_map f zs) y → Among (cons_option o (filter_map f zs)) y
    behind None m = m
    behind (Some w) m = among_later w (filter_map f zs) y m

pub filter_map_none : {X Y : Type 0} (f : X → Option Y) (xs : List X) → ((x : X) → f x ≡ None) → filter_map f xs ≡ []
filter_map_none f [] h = refl
filter_map_none {X} {Y} f (x ∷ xs) h = ap (λ (o : Option Y). cons_option o (filter_map f xs)) (h x) ∙ filter_map_none f xs h

-- ---- items that pass a test

-- two tests that agree pass some item alike
pub any_same : {X : Type 0} (p q : X → Bool) → ((x : X) → p x ≡ q x) → (xs : List X) → list_any p xs ≡ list_any q xs
any_same p q same [] = refl
any_same p q same (x ∷ xs) = ap₂ (λ (a b : Bool). a || b) (same x) (any_same p q same xs)

pub filter_none : {X : Type 0} (p : X → Bool) (xs : List X) → ((x : X) → p x ≡ false) → filter p xs ≡ []
filter_none p [] h = refl
filter_none p (x ∷ xs) h = ap (λ b. cond b (x ∷ filter p xs) (filter p xs)) (h x) ∙ filter_none p xs h

pub filter_all : {X : Type 0} (p : X → Bool) (xs : List X) → ((x : X) → p x ≡ true) → filter p xs ≡ xs
filter_all p [] h = refl
filter_all p (x ∷ xs) h = ap (λ b. cond b (x ∷ filter p xs) (filter p xs)) (h x) ∙ ap (λ ys. x ∷ ys) (filter_all p xs h)

-- a list where each item that stands in it passes
pub filter_among_same : {X : Type 0} (p q : X → Bool) (xs : List X) → ((x : X) → Among xs x → p x ≡ q x) → filter p xs ≡ filter q xs
filter_among_same p q [] h = refl
filter_among_same {X} p q (x ∷ xs) h =
    ap₂ (λ (b : Bool) (rest : List X). cond b (x ∷ rest) rest) (h x (0, refl)) (filter_among_same p q xs (λ y m. h y (among_later x xs y m)))

pub filter_twice : {X : Type 0} (p q : X → Bool) (xs : List X) → filter p (filter q xs) ≡ filter (λ x. q x && p x) xs
filter_twice p q [] = refl
filter_twice {X} p q (x ∷ xs) = by_test (q x) (filter_twice p q xs)
  where
    by_test : (b : Bool) → filter p (filter q xs) ≡ filter (λ x. q x && p x) xs
        → filter p (cond b (x ∷ filter q xs) (filter q xs)) ≡ cond (b && p x) (x ∷ filter (λ x. q x && p x) xs) (filter (λ x. q x && p x) xs)
    by_test true e = ap (λ (rest : List X). cond (p x) (x ∷ rest) rest) e
    by_test false e = e

pub filter_swap : {X : Type 0} (p q : X → Bool) (xs : List X) → filter p (filter q xs) ≡ filter q (filter p xs)
filter_swap p q xs =
    filter_twice p q xs ∙ filter_among_same (λ x. q x && p x) (λ x. p x && q x) xs (λ x m. and_comm (q x) (p x)) ∙ sym (filter_twice q p xs)

-- ---- marks

-- to begin with nothing is marked
pub none_marked : (count n : ℕ) → mark_at (replicate count false) n ≡ false
none_marked count n = elim (cases_lt n count) [
  | inl lt ↦ get_or-replicate count n false false lt
  | inr ge ↦ get_or_past (replicate count false) n false (let len = length-replicate {A = Bool} count false in omega (arith, ge, len))
]
