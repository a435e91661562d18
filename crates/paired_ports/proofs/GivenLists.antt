-- What a function gives of the items of a list, by their places.
use Rattle.std.proofs.Common.{◌≡◌, ℕ, zero, suc, ◌+◌, ◌<◌, ◌≤◌, Bool, true, false, cond, eqb, List, [], ◌∷◌, Option, Some, None, nat_lt, arith, ap, subst, sym, refl, ◌∙◌, inl, inr}
use Rattle.std.specs.Prelude.{count_by, filter_map, length, slice_get}
use Rattle.std.specs.List.{cons_option}
use Rattle.std.proofs.lemmas.Bool.{cases_lt, eq-eqb, eqb-true, false≢true, lt-ltb}
use Rattle.std.proofs.lemmas.List.Sums.{sum_by-cons}
use Rattle.std.proofs.lemmas.Option.{none-some, same_Some}
use Rattle.vrt_model.proofs.Members.{among_any, among_later, any_among}
use Rattle.vrt_model.specs.Lists.{Among, At, has_number}

-- ---- what is given

-- each item gives something
abbrev pub GivesAll : {X Y : Type 0} → (X → Option Y) → List X → Type 0
GivesAll {X} {Y} f xs = (x : X) → Among xs x → (y : Y) × (f x ≡ Some y)

-- where all give, what an item gives stands at its place
pub given_at : {X Y : Type 0} (f : X → Option Y) (xs : List X) (i : ℕ) (x : X) (y : Y) → GivesAll f xs → At xs i x → f x ≡ Some y → At (filter_map f xs) i y
given_at f [] i x y h here e = absurd (none-some x here)
given_at {X} {Y} f (z ∷ zs) zero x y h here e =
    subst (λ (o : Option Y). slice_get (cons_option o (filter_map f zs)) 0 ≡ Some y) (sym (ap f (same_Some z x here) ∙ e)) refl
given_at {X} {Y} f (z ∷ zs) (suc i) x y h here e =
    subst (λ (o : Option Y). slice_get (cons_option o (filter_map f zs)) (suc i) ≡ Some y) (sym (h z (0, refl)).1)
    (given_at f zs i x y (λ w m. h w (among_later z zs w m)) here e)

-- there is one for each item
pub given_length : {X Y : Type 0} (f : X → Option Y) (xs : List X) → GivesAll f xs → length (filter_map f xs) ≡ length xs
given_length f [] h = refl
given_length {X} {Y} f (x ∷ xs) h =
    ap (λ (o : Option Y). length (cons_option o (filter_map f xs))) (h x (0, refl)).1
    ∙ ap suc (given_length f xs (λ w m. h w (among_later x xs w m)))

-- ---- numbers

-- a number that a test finds stands in the list, and the other way round
pub number_among : (ns : List ℕ) (n : ℕ) → has_number ns n ≡ true → Among ns n
number_among ns n t =
    let h = any_among (λ x. eqb x n) ns t in subst (Among ns) (eqb-true h.0 n h.2) h.1

pub among_number : (ns : List ℕ) (n : ℕ) → Among ns n → has_number ns n ≡ true
among_number ns n m = among_any (λ x. eqb x n) ns n m (eq-eqb n n refl)

-- ---- counts

abbrev pub is_number : ℕ → ℕ → Bool
is_number s other = eqb other s

-- one number more
count_more : (s n : ℕ) (ns : List ℕ) → count_by (is_number s) (n ∷ ns) ≡ cond (eqb n s) 1 0 + count_by (is_number s) ns
count_more s n ns = sum_by-cons (λ (m : ℕ). cond (is_number s m) 1 0) n ns

-- the number itself is counted
count_itself : (s k : ℕ) (ns : List ℕ) → k ≤ count_by (is_number s) ns → suc k ≤ count_by (is_number s) (s ∷ ns)
count_itself s k ns le =
    let more = count_more s s ns in
    let one : cond (eqb s s) 1 0 ≡ 1 = ap {B = ℕ} (λ (b : Bool). cond b 1 0) (eq-eqb s s refl) in
    omega (arith, more, one, le)

-- what is given in front does not lessen the count
count_grows : (s k : ℕ) (o : Option ℕ) (ns : List ℕ) → k ≤ count_by (is_number s) ns → k ≤ count_by (is_number s) (cons_option o ns)
count_grows s k None ns le = le
count_grows s k (Some n) ns le = let more = count_more s n ns in omega (arith, more, le)

-- an item gives the number
counted_once : {X : Type 0} (f : X → Option ℕ) (s : ℕ) (xs : List X) (i : ℕ) (x : X) → At xs i x → f x ≡ Some s → 1 ≤ count_by (is_number s) (filter_map f xs)
counted_once f s [] i x here e = absurd (none-some x here)
counted_once f s (z ∷ zs) zero x here e =
    subst (λ (o : Option ℕ). 1 ≤ count_by (is_number s) (cons_option o (filter_map f zs))) (sym (ap f (same_Some z x here) ∙ e))
    (count_itself s 0 (filter_map f zs) (omega arith))
counted_once f s (z ∷ zs) (suc i) x here e = count_grows s 1 (f z) (filter_map f zs) (counted_once f s zs i x here e)

-- two items give it
counted_twice : {X : Type 0} (f : X → Option ℕ) (s : ℕ) (xs : List X) (i j : ℕ) (x y : X) → i < j → At xs i x → At xs j y → f x ≡ Some s → f y ≡ Some s
    → 2 ≤ count_by (is_number s) (filter_map f xs)
counted_twice f s [] i j x y lt a b e g = absurd (none-some x a)
counted_twice f s (z ∷ zs) zero zero x y lt a b e g = absurd (omega (arith, lt))
counted_twice f s (z ∷ zs) (suc i) zero x y lt a b e g = absurd (omega (arith, lt))
counted_twice f s (z ∷ zs) zero (suc j) x y lt a b e g =
    subst (λ (o : Option ℕ). 2 ≤ count_by (is_number s) (cons_option o (filter_map f zs))) (sym (ap f (same_Some z x a) ∙ e))
    (count_itself s 1 (filter_map f zs) (counted_once f s zs j y b g))
counted_twice f s (z ∷ zs) (suc i) (suc j) x y lt a b e g = count_grows s 2 (f z) (filter_map f zs) (counted_twice f s zs i j x y (omega (arith, lt)) a b e g)

-- where a number is not given twice, one item alone gives it
pub given_once : {X : Type 0} (f : X → Option ℕ) (s : ℕ) (xs : List X) (i j : ℕ) (x y : X) → nat_lt 1 (count_by (is_number s) (filter_map f xs)) ≡ false
    → At xs i x → At xs j y → f x ≡ Some s → f y ≡ Some s → i ≡ j
given_once f s xs i j x y few a b e g =
    elim (cases_lt i j) [
      | inl lt ↦ absurd (twice (counted_twice f s xs i j x y lt a b e g))
      | inr le ↦
          elim (cases_lt j i) [
            | inl lt ↦ absurd (twice (counted_twice f s xs j i y x lt b a g e))
            | inr ge ↦ omega (arith, le, ge)
          ]
    ]
  where
    twice : 2 ≤ count_by (is_number s) (filter_map f xs) → ⊥
    twice two = false≢true (sym few ∙ lt-ltb 1 (count_by (is_number s) (filter_map f xs)) (omega (arith, two)))
