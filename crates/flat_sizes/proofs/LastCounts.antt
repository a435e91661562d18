-- How many names there are, each counted where it stands last.
use Rattle.std.proofs.Common.{◌≡◌, ◌+◌, ◌∷◌, ◌||◌, ◌&&◌, [], ℕ, suc, not, List, Bool, true, false, cond, filter, length, refl, ap, sym, ◌∙◌, arith}
use Rattle.std.specs.Prelude.{bytes_eq}
use Rattle.std.proofs.lemmas.Slice.Eq.{bytes_eq-Decides}
use Rattle.names.proofs.FilterLaws.{filter_twice, has_name_filter}
use Rattle.names.proofs.NameLaws.{bytes_eq-sym}
use Rattle.flat_sizes.specs.Mentions.{last_count}
use Rattle.vrt_model.specs.Lists.{distinct, has_name}

abbrev other_than : List ℕ → List ℕ → Bool
other_than x y = not (bytes_eq x y)

abbrev one_if : Bool → ℕ
one_if b = cond b 1 0

and_none : (b : Bool) → (b && false) ≡ false
and_none true = refl
and_none false = refl

-- one name less, by tests: the first passes, it is the name, the name passes, the name is behind it
one_less : (a b px i : Bool) (n r : ℕ) → (b ≡ true → px ≡ a) → n + one_if ((not b && px) && i) ≡ r
    → cond (a && not b) (suc n) n + one_if (px && (b || i)) ≡ cond a (suc r) r
one_less true true true i n r f e = omega (arith, e)
one_less true true false i n r f e = let h : false ≡ true = f refl in cc
one_less true false true true n r f e = omega (arith, e)
one_less true false true false n r f e = omega (arith, e)
one_less true false false i n r f e = omega (arith, e)
one_less false true true i n r f e = let h : true ≡ false = f refl in cc
one_less false true false i n r f e = omega (arith, e)
one_less false false true true n r f e = omega (arith, e)
one_less false false true false n r f e = omega (arith, e)
one_less false false false i n r f e = omega (arith, e)

abbrev front : Bool → List ℕ → List (List ℕ) → List (List ℕ)
front b z ys = cond b (z ∷ ys) ys

front_length : (b : Bool) (z : List ℕ) (ys : List (List ℕ)) → length (front b z ys) ≡ cond b (suc (length ys)) (length ys)
front_length true z ys = refl
front_length false z ys = refl

other_length : (a b : Bool) (x z : List ℕ) (ys : List (List ℕ)) → bytes_eq x z ≡ b
    → length (filter (other_than x) (front a z ys)) ≡ cond (a && not b) (suc (length (filter (other_than x) ys))) (length (filter (other_than x) ys))
other_length false b x z ys e = refl
other_length true b x z ys e = ap (λ (c : Bool). length (front (not c) z (filter (other_than x) ys))) e ∙ front_length (not b) z (filter (other_than x) ys)

-- of those that pass a test, each there once, one name is taken away, if it is there
less_one : (p : List ℕ → Bool) (xs : List (List ℕ)) (x : List ℕ)
    → length (filter (other_than x) (filter p (distinct xs))) + one_if (p x && has_name xs x) ≡ length (filter p (distinct xs))
less_one p [] x = ap (λ (b : Bool). 0 + one_if b) (and_none (p x))
less_one p (z ∷ xs) x =
    ap (λ (ys : List (List ℕ)). length (filter (other_than x) (front (p z) z ys)) + one_if (p x && (bytes_eq x z || has_name xs x))) twice
    ∙ by_tests (p z) (bytes_eq x z) refl refl (less_one (λ y. other_than z y && p y) xs x)
    ∙ sym (ap (λ (ys : List (List ℕ)). length (front (p z) z ys)) twice) where
      twice : filter p (filter (other_than z) (distinct xs)) ≡ filter (λ y. other_than z y && p y) (distinct xs)
      twice = filter_twice p (other_than z) (distinct xs)

      by_tests : (a b : Bool) → p z ≡ a → bytes_eq x z ≡ b
          → length (filter (other_than x) (filter (λ y. other_than z y && p y) (distinct xs))) + one_if ((other_than z x && p x) && has_name xs x)
          ≡ length (filter (λ y. other_than z y && p y) (distinct xs))
          → length (filter (other_than x) (front a z (filter (λ y. other_than z y && p y) (distinct xs)))) + one_if (p x && (bytes_eq x z || has_name xs x))
          ≡ length (front a z (filter (λ y. other_than z y && p y) (distinct xs)))
      by_tests a b pa e more =
          let ys = filter (λ y. other_than z y && p y) (distinct xs) in
          let n = length (filter (other_than x) ys) in
          ap (λ (m : ℕ). m + one_if (p x && (bytes_eq x z || has_name xs x))) (other_length a b x z ys e)
          ∙ ap (λ (c : Bool). cond (a && not b) (suc n) n + one_if (p x && (c || has_name xs x))) e
          ∙ one_less a b (p x) (has_name xs x) n (length ys) (λ h. ap p ((bytes_eq-Decides x z).0 (e ∙ h)) ∙ pa)
          (sym (ap (λ (c : Bool). n + one_if ((not c && p x) && has_name xs x)) (bytes_eq-sym z x ∙ e)) ∙ more)
          ∙ sym (front_length a z ys)

filter_true : (ys : List (List ℕ)) → filter (λ y. true) ys ≡ ys
filter_true [] = refl
filter_true (y ∷ ys) = ap (λ (zs : List (List ℕ)). y ∷ zs) (filter_true ys)

one_more : (i : Bool) (m r : ℕ) → m + one_if i ≡ r → suc m ≡ one_if (not i) + r
one_more true m r e = omega (arith, e)
one_more false m r e = omega (arith, e)

-- names that pass a test, each once, are as many as those counted where they stand last
pub counts_are : (test : List ℕ → Bool) (xs : List (List ℕ)) → length (distinct (filter test xs)) ≡ last_count test xs
counts_are test [] = refl
counts_are test (x ∷ xs) = by_test (test x) refl (counts_are test xs) where
  by_test : (b : Bool) → test x ≡ b → length (distinct (filter test xs)) ≡ last_count test xs
      → length (distinct (front b x (filter test xs))) ≡ one_if (b && not (has_name xs x)) + last_count test xs
  by_test false h e = omega (arith, e)
  by_test true h e =
      let F = filter test xs in
      let m = length (filter (other_than x) (distinct F)) in
      let less : m + one_if (has_name F x) ≡ length (distinct F) =
      sym (ap (λ (ys : List (List ℕ)). length (filter (other_than x) ys) + one_if (has_name F x)) (filter_true (distinct F)))
      ∙ less_one (λ y. true) F x ∙ ap (λ (ys : List (List ℕ)). length ys) (filter_true (distinct F)) in
      let there : has_name F x ≡ has_name xs x = has_name_filter test xs x ∙ ap (λ (b : Bool). b && has_name xs x) h in
      one_more (has_name xs x) m (last_count test xs) (sym (ap (λ (b : Bool). m + one_if b) there) ∙ less ∙ e)
