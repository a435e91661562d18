-- Names that are gathered: with one more, with more, and each name once.
use Rattle.std.proofs.Common.{◌≡◌, ◌≤◌, ◌+◌, ◌∷◌, ◌++◌, ◌||◌, ◌&&◌, [], ℕ, suc, not, List, Bool, true, false, cond, filter, map, drop, length, length-append, arith, refl, ap, sym, ◌∙◌, append-nil, append_assoc}
use Rattle.std.specs.Prelude.{bytes_eq}
use Rattle.std.proofs.lemmas.List.{drop_all}
use Rattle.std.proofs.lemmas.List.Folds.{list_any-append}
use Rattle.std.proofs.lemmas.Slice.Eq.{bytes_eq-Decides}
use Rattle.std.proofs.Math.Bool.{or-false}
use Rattle.vrt_model.proofs.Lists.{filter_among_same, filter_swap, filter_twice}
pub use Rattle.vrt_model.proofs.Tests.{bytes_eq-sym, or_swap}
use Rattle.vrt_model.specs.Lists.{distinct, has_name}
use Rattle.names.specs.Names.{with_name, with_names}
use Rattle.names.proofs.FilterLaws.{filter_new}

-- ---- lists with the same names

abbrev pub HaveSame : List (List ℕ) → List (List ℕ) → Type 0
HaveSame a b = (name : List ℕ) → has_name a name ≡ has_name b name

-- a name more, at the end unless it is there, or in front
pub with_front : (names : List (List ℕ)) (n : List ℕ) → HaveSame (with_name names n) (n ∷ names)
with_front names n name = by_test (has_name names n) refl where
  there : (b : Bool) → bytes_eq name n ≡ b → has_name names n ≡ true → has_name names name ≡ (b || has_name names name)
  there true e h = ap (has_name names) ((bytes_eq-Decides name n).0 e) ∙ h
  there false e h = refl

  by_test : (b : Bool) → has_name names n ≡ b → has_name (cond b names (names ++ n ∷ [])) name ≡ (bytes_eq name n || has_name names name)
  by_test true h = there (bytes_eq name n) refl h
  by_test false h = list_any-append (bytes_eq name) names (n ∷ []) ∙ or_swap (has_name names name) (bytes_eq name n)

-- a name is among names with more where it is among the first or among the others
pub among_names : (names xs : List (List ℕ)) (name : List ℕ) → has_name (with_names names xs) name ≡ (has_name names name || has_name xs name)
among_names names [] name = sym (or-false (has_name names name))
among_names names (x ∷ xs) name =
    among_names (with_name names x) xs name ∙ ap (λ (b : Bool). b || has_name xs name) (with_front names x name) ∙ turn (bytes_eq name x) (has_name names name) (has_name xs name) where
      turn : (p q r : Bool) → ((p || q) || r) ≡ (q || (p || r))
      turn true true r = refl
      turn true false r = refl
      turn false q r = refl

-- more names, and more behind them
pub with_names-append : (names xs ys : List (List ℕ)) → with_names names (xs ++ ys) ≡ with_names (with_names names xs) ys
with_names-append names [] ys = refl
with_names-append names (x ∷ xs) ys = with_names-append (with_name names x) xs ys

-- there are at most as many as both
pub length-with_names : (names xs : List (List ℕ)) → length (with_names names xs) ≤ length names + length xs
length-with_names names [] = omega arith
length-with_names names (x ∷ xs) = by_test (has_name names x) (length-with_names (with_name names x) xs)
  where
    by_test : (b : Bool) → length (with_names (cond b names (names ++ x ∷ [])) xs) ≤ length (cond b names (names ++ x ∷ [])) + length xs
        → length (with_names (cond b names (names ++ x ∷ [])) xs) ≤ length names + suc (length xs)
    by_test true h = omega (arith, h)
    by_test false h = let len = length-append names (x ∷ []) in omega (arith, h, len)

-- ---- each name once

-- the names that pass, each once
pub once_filter : (p : List ℕ → Bool) (xs : List (List ℕ)) → distinct (filter p xs) ≡ filter p (distinct xs)
once_filter p [] = refl
once_filter p (x ∷ xs) = by_test (p x) refl (once_filter p xs) where
  skip : (y : List ℕ) (b : Bool) → p x ≡ false → bytes_eq x y ≡ b → (not (bytes_eq x y) && p y) ≡ p y
  skip y true h e = ap (λ (b : Bool). not b && p y) e ∙ sym (ap p (sym ((bytes_eq-Decides x y).0 e)) ∙ h)
  skip y false h e = ap (λ (b : Bool). not b && p y) e

  by_test : (b : Bool) → p x ≡ b → distinct (filter p xs) ≡ filter p (distinct xs)
      → distinct (cond b (x ∷ filter p xs) (filter p xs))
      ≡ cond b (x ∷ filter p (filter (λ y. not (bytes_eq x y)) (distinct xs))) (filter p (filter (λ y. not (bytes_eq x y)) (distinct xs)))
  by_test true h e =
      ap (λ (ys : List (List ℕ)). x ∷ filter (λ y. not (bytes_eq x y)) ys) e ∙ ap (λ (ys : List (List ℕ)). x ∷ ys) (filter_swap (λ y. not (bytes_eq x y)) p (distinct xs))
  by_test false h e =
      e ∙ sym (filter_twice p (λ y. not (bytes_eq x y)) (distinct xs) ∙ filter_among_same (λ y. not (bytes_eq x y) && p y) p (distinct xs) (λ y m. skip y (bytes_eq x y) h refl))

-- names with more are the names and, each once, those that are not among them
pub with_names_are : (names xs : List (List ℕ)) → with_names names xs ≡ names ++ distinct (filter (λ y. not (has_name names y)) xs)
with_names_are names [] = sym (append-nil names)
with_names_are names (x ∷ xs) = by_test (has_name names x) (with_names_are names xs) (with_names_are (names ++ x ∷ []) xs) where
  neither : (a b : Bool) → not (a || (b || false)) ≡ (not a && not b)
  neither true b = refl
  neither false true = refl
  neither false false = refl

  apart : (y : List ℕ) → not (has_name (names ++ x ∷ []) y) ≡ (not (has_name names y) && not (bytes_eq x y))
  apart y =
      ap not (list_any-append (bytes_eq y) names (x ∷ [])) ∙ neither (has_name names y) (bytes_eq y x)
      ∙ ap (λ (b : Bool). not (has_name names y) && not b) (bytes_eq-sym y x)

  by_test : (b : Bool) → with_names names xs ≡ names ++ distinct (filter (λ y. not (has_name names y)) xs)
      → with_names (names ++ x ∷ []) xs ≡ (names ++ x ∷ []) ++ distinct (filter (λ y. not (has_name (names ++ x ∷ []) y)) xs)
      → with_names (cond b names (names ++ x ∷ [])) xs
      ≡ names ++ distinct (cond (not b) (x ∷ filter (λ y. not (has_name names y)) xs) (filter (λ y. not (has_name names y)) xs))
  by_test true kept new = kept
  by_test false kept new =
      new ∙ append_assoc names (x ∷ []) (distinct (filter (λ y. not (has_name (names ++ x ∷ []) y)) xs))
      ∙ ap (λ (ys : List (List ℕ)). names ++ x ∷ ys)
      (ap distinct (filter_among_same (λ y. not (has_name (names ++ x ∷ []) y)) (λ y. not (has_name names y) && not (bytes_eq x y)) xs (λ y m. apart y)
      ∙ sym (filter_twice (λ y. not (bytes_eq x y)) (λ y. not (has_name names y)) xs))
      ∙ once_filter (λ y. not (bytes_eq x y)) (filter (λ y. not (has_name names y)) xs))

-- names that are gathered from none are each there once
pub names_once : (xs : List (List ℕ)) → with_names [] xs ≡ distinct xs
names_once xs = with_names_are [] xs ∙ ap distinct (filter_new xs)

-- each name once has the same names
pub once_has_same : (names : List (List ℕ)) → HaveSame (distinct names) names
once_has_same names name = ap (λ ns. has_name ns name) (sym (names_once names)) ∙ among_names [] names name

-- more names behind names that are each there once
pub distinct_more : (xs ys : List (List ℕ)) → distinct (xs ++ ys) ≡ with_names (distinct xs) ys
distinct_more xs ys = sym (names_once (xs ++ ys)) ∙ with_names-append [] xs ys ∙ ap (λ ns. with_names ns ys) (names_once xs)

-- three lists of names, each name once
pub once_of_three : (a b c : List (List ℕ)) → with_names (with_names (with_names [] a) b) c ≡ distinct ((a ++ b) ++ c)
once_of_three a b c =
    ap (λ ns. with_names ns c) (sym (with_names-append [] a b)) ∙ sym (with_names-append [] (a ++ b) c) ∙ names_once ((a ++ b) ++ c)

-- no item is left whose name is to be gathered
pub names_exit : {X : Type 0} (name : X → List ℕ) (i : ℕ) (xs : List X) (names : List (List ℕ)) → length xs ≤ i
    → with_names names (map name (drop i xs)) ≡ with_names [] (map name xs) → names ≡ distinct (map name xs)
names_exit name i xs names past e = sym (ap (λ ys. with_names names (map name ys)) (drop_all i xs past)) ∙ e ∙ names_once (map name xs)
