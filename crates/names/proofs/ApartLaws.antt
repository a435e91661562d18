-- Names that do not repeat.
use Rattle.std.proofs.Common.{◌≡◌, ◌++◌, ◌∷◌, ◌||◌, [], ℕ, zero, suc, not, List, Bool, true, false, cond, Option, Some, None, option_map, map, filter, refl, ap, ap₂, sym, subst, ◌∙◌, arith, append-nil}
use Rattle.std.specs.Prelude.{bytes_eq, slice_get}
use Rattle.std.proofs.lemmas.Bool.{or_from, or_parts}
use Rattle.std.proofs.lemmas.List.Folds.{list_any-append}
use Rattle.std.proofs.lemmas.Option.{same_Some, slice_get-map}
use Rattle.vrt_model.proofs.Tests.{bytes_eq-sym}
use Rattle.vrt_model.specs.Inputs.{AllApart}
use Rattle.vrt_model.specs.Lists.{At, distinct, has_name}
use Rattle.names.specs.Names.{with_name, with_names}
use Rattle.names.proofs.FilterLaws.{filter_all}
use Rattle.names.proofs.NameLaws.{names_once}

-- no name stands again behind it
abbrev pub NoRepeat : List (List ℕ) → Type 0
NoRepeat [] = Unit {0}
NoRepeat (x ∷ xs) = (has_name xs x ≡ false) × NoRepeat xs

-- a name more in the middle
pub no_repeat_within : (xs ys : List (List ℕ)) (y : List ℕ) → NoRepeat (xs ++ ys) → has_name (xs ++ ys) y ≡ false → NoRepeat (xs ++ y ∷ ys)
no_repeat_within [] ys y n e = (e, n)
no_repeat_within (x ∷ xs) ys y n e =
    let apart = or_parts (has_name xs x) (has_name ys x) (sym (list_any-append (bytes_eq x) xs ys) ∙ n.0) in
    let new = or_parts (bytes_eq y x) (has_name (xs ++ ys) y) e in (
      list_any-append (bytes_eq x) xs (y ∷ ys) ∙ or_from (has_name xs x) (bytes_eq x y || has_name ys x) apart.0 (or_from (bytes_eq x y) (has_name ys x) (bytes_eq-sym x y ∙ new.0) apart.1),
      no_repeat_within xs ys y n.1 new.1,
    )

-- a name more at the end
pub no_repeat_end : (xs : List (List ℕ)) (y : List ℕ) → NoRepeat xs → has_name xs y ≡ false → NoRepeat (xs ++ y ∷ [])
no_repeat_end xs y n e =
    no_repeat_within xs [] y (rw (append-nil xs) n) (ap (λ names. has_name names y) (append-nil xs) ∙ e)

-- a name that stands at a place is among the names
there : (xs : List (List ℕ)) (i : ℕ) (x y : List ℕ) → slice_get xs i ≡ Some y → bytes_eq x y ≡ true → has_name xs x ≡ true
there [] i x y h e = cc
there (z ∷ zs) zero x y h e = ap (λ (b : Bool). b || has_name zs x) (ap (bytes_eq x) (same_Some z y h) ∙ e)
there (z ∷ zs) (suc i) x y h e = or_true (bytes_eq x z) (has_name zs x) (there zs i x y h e) where
  or_true : (a b : Bool) → b ≡ true → (a || b) ≡ true
  or_true true b e = refl
  or_true false b e = e

clash : (b : Bool) → b ≡ true → b ≡ false → ⊥
clash true h e = cc
clash false h e = cc

-- names that do not repeat are apart
pub apart : (xs : List (List ℕ)) → NoRepeat xs → AllApart bytes_eq xs
apart [] n i j x y hi hj e = cc
apart (z ∷ zs) n zero zero x y hi hj e = refl
apart (z ∷ zs) n zero (suc j) x y hi hj e =
    absurd (clash (has_name zs z) (there zs j z y hj (ap (λ w. bytes_eq w y) (same_Some z x hi) ∙ e)) n.0)
apart (z ∷ zs) n (suc i) zero x y hi hj e =
    absurd (clash (has_name zs z) (there zs i z x hi (bytes_eq-sym z x ∙ ap (bytes_eq x) (same_Some z y hj) ∙ e)) n.0)
apart (z ∷ zs) n (suc i) (suc j) x y hi hj e = ap suc (apart zs n.1 i j x y hi hj e)

-- items are apart where their names are
pub apart_by : {X : Type 0} (name : X → List ℕ) (xs : List X) → NoRepeat (map name xs) → AllApart (λ a b. bytes_eq (name a) (name b)) xs
apart_by name xs n i j x y hi hj e =
    apart (map name xs) n i j (name x) (name y) (slice_get-map name xs i ∙ ap (option_map name) hi) (slice_get-map name xs j ∙ ap (option_map name) hj) e

-- names with more do not repeat where they did not
pub with_names_apart : (names xs : List (List ℕ)) → NoRepeat names → NoRepeat (with_names names xs)
with_names_apart names [] n = n
with_names_apart names (x ∷ xs) n = with_names_apart (with_name names x) xs (one (has_name names x) refl) where
  one : (b : Bool) → has_name names x ≡ b → NoRepeat (cond b names (names ++ x ∷ []))
  one true h = n
  one false h = no_repeat_end names x n h

-- names that are each there once do not repeat
pub once_apart : (xs : List (List ℕ)) → NoRepeat (distinct xs)
once_apart xs = subst NoRepeat (names_once xs) (with_names_apart [] xs tt)

not_kept : (p : List ℕ → Bool) (xs : List (List ℕ)) (y : List ℕ) → has_name xs y ≡ false → has_name (filter p xs) y ≡ false
not_kept p [] y e = refl
not_kept p (x ∷ xs) y e = by_test (p x) (or_parts (bytes_eq y x) (has_name xs y) e).0 (not_kept p xs y (or_parts (bytes_eq y x) (has_name xs y) e).1) where
  by_test : (b : Bool) → bytes_eq y x ≡ false → has_name (filter p xs) y ≡ false → has_name (cond b (x ∷ filter p xs) (filter p xs)) y ≡ false
  by_test true h e = ap (λ (b : Bool). b || has_name (filter p xs) y) h ∙ e
  by_test false h e = e

-- nor do those of them that pass
pub kept_apart : (p : List ℕ → Bool) (xs : List (List ℕ)) → NoRepeat xs → NoRepeat (filter p xs)
kept_apart p [] n = tt
kept_apart p (x ∷ xs) n = by_test (p x) (not_kept p xs x n.0) (kept_apart p xs n.1) where
  by_test : (b : Bool) → has_name (filter p xs) x ≡ false → NoRepeat (filter p xs) → NoRepeat (cond b (x ∷ filter p xs) (filter p xs))
  by_test true h r = (h, r)
  by_test false h r = r

-- ---- names that are apart

pub apart_behind : (x : List ℕ) (xs : List (List ℕ)) → AllApart bytes_eq (x ∷ xs) → AllApart bytes_eq xs
apart_behind x xs apart i j a b p q e = let h : suc i ≡ suc j = apart (suc i) (suc j) a b p q e in omega (arith, h)

-- names that are apart are each there once
pub once_is_all : (xs : List (List ℕ)) → AllApart bytes_eq xs → distinct xs ≡ xs
once_is_all [] apart = refl
once_is_all (x ∷ xs) apart =
    ap (λ (ys : List (List ℕ)). x ∷ filter (λ y. not (bytes_eq x y)) ys) (once_is_all xs (apart_behind x xs apart))
    ∙ ap (λ (ys : List (List ℕ)). x ∷ ys) (filter_all (λ y. not (bytes_eq x y)) xs (λ i y e. differs i y e (bytes_eq x y) refl)) where
      differs : (i : ℕ) (y : List ℕ) → At xs i y → (b : Bool) → bytes_eq x y ≡ b → not (bytes_eq x y) ≡ true
      differs i y e true h = let n : 0 ≡ suc i = apart 0 (suc i) x y refl e h in absurd (omega (arith, n))
      differs i y e false h = ap not h

-- names that are apart do not repeat
pub once_by : (xs : List (List ℕ)) → AllApart bytes_eq xs → NoRepeat xs
once_by xs apart = subst NoRepeat (once_is_all xs apart) (once_apart xs)

-- names that are apart, gathered from none, are all there in their order
pub apart_named : (xs : List (List ℕ)) → AllApart bytes_eq xs → with_names [] xs ≡ xs
apart_named xs apart = names_once xs ∙ once_is_all xs apart

-- so are names that do not repeat
pub all_named : (xs : List (List ℕ)) → NoRepeat xs → with_names [] xs ≡ xs
all_named xs n = apart_named xs (apart xs n)

-- an item at a place has its name there
name_at : {X : Type 0} (name : X → List ℕ) (xs : List X) (i : ℕ) (n : List ℕ) → slice_get (map name xs) i ≡ Some n → (x : X) × (slice_get xs i ≡ Some x) × (name x ≡ n)
name_at {X} name xs i n e = found (slice_get xs i) refl (sym (slice_get-map name xs i) ∙ e) where
  found : (o : Option X) → slice_get xs i ≡ o → option_map name o ≡ Some n → (x : X) × (slice_get xs i ≡ Some x) × (name x ≡ n)
  found None same e = cc
  found (Some x) same e = let is : name x ≡ n = cc in (x, same, is)

-- the names of items that differ in them
pub names_apart : {X : Type 0} (name : X → List ℕ) (xs : List X) → AllApart (λ x y. bytes_eq (name x) (name y)) xs → AllApart bytes_eq (map name xs)
names_apart name xs apart i j m n a b e =
    let p = name_at name xs i m a in
    let q = name_at name xs j n b in
    apart i j p.0 q.0 p.1 q.1 (ap₂ bytes_eq p.2 q.2 ∙ e)
