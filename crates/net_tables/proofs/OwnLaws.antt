-- Own nets that are gathered in groups.
use Rattle.std.proofs.Common.{◌≡◌, ◌<◌, ◌≤◌, ◌+◌, ◌++◌, ◌∷◌, [], ℕ, List, Bool, true, Option, Some, None, cond, filter, flat_map, length, drop, get_or, refl, ap, ap₂, sym, ◌∙◌}
use Rattle.std.specs.Prelude.{is_none}
use Rattle.std.proofs.lemmas.List.{drop_all, drop_more}
use Rattle.names.specs.Names.{with_name, with_names}
use Rattle.net_tables.specs.Names.{with_own, with_owns}
use Rattle.net_tables.specs.declared.types.CellNet.{CellNet}
use Rattle.vrt_model.specs.Lists.{has_name}

module _ (other : List ℕ → Option CellNet) where
  -- more names, and more behind them
  with_owns-append : (names xs ys : List (List ℕ)) → with_owns other names (xs ++ ys) ≡ with_owns other (with_owns other names xs) ys
  with_owns-append names [] ys = refl
  with_owns-append names (x ∷ xs) ys = with_owns-append (with_own other names x) xs ys

  -- a name that is there adds none
  pub own_there : (names : List (List ℕ)) (name : List ℕ) → has_name names name ≡ true → names ≡ with_own other names name
  own_there names name there = by_test (other name) where
    by_test : (o : Option CellNet) → names ≡ elim o [ None ↦ with_name names name | Some net ↦ names ]
    by_test None = sym (ap (λ (b : Bool). cond b names (names ++ name ∷ [])) there)
    by_test (Some net) = refl

  -- those of some names that are nothing else, each once
  pub owns_are : (names xs : List (List ℕ)) → with_owns other names xs ≡ with_names names (filter (λ name. is_none (other name)) xs)
  owns_are names [] = refl
  owns_are names (x ∷ xs) = by_test (other x) (owns_are names xs) (owns_are (with_name names x) xs) where
    by_test : (o : Option CellNet) → with_owns other names xs ≡ with_names names (filter (λ name. is_none (other name)) xs)
        → with_owns other (with_name names x) xs ≡ with_names (with_name names x) (filter (λ name. is_none (other name)) xs)
        → with_owns other (elim o [ None ↦ with_name names x | Some net ↦ names ]) xs
        ≡ with_names names (cond (is_none o) (x ∷ filter (λ name. is_none (other name)) xs) (filter (λ name. is_none (other name)) xs))
    by_test None kept more = more
    by_test (Some net) kept more = kept

  -- one group more
  pub owns_on : {X : Type 0} (group : X → List (List ℕ)) (i : ℕ) (xs : List X) (x : X) (names after all : List (List ℕ)) → i < length xs → x ≡ get_or xs i x
      → after ≡ with_owns other names (group x) → with_owns other names (flat_map group (drop i xs)) ≡ all → with_owns other after (flat_map group (drop (i + 1) xs)) ≡ all
  owns_on group i xs x names after all lt is e so_far =
      ap (λ ns. with_owns other ns (flat_map group (drop (i + 1) xs))) e ∙ sym (with_owns-append names (group x) (flat_map group (drop (i + 1) xs)))
      ∙ ap (λ y. with_owns other names (group y ++ flat_map group (drop (i + 1) xs))) is
      ∙ sym (ap (λ ys. with_owns other names (flat_map group ys)) (drop_more xs i x lt)) ∙ so_far

  -- no group is left
  pub owns_end : {X : Type 0} (group : X → List (List ℕ)) (i : ℕ) (xs : List X) (names all : List (List ℕ)) → length xs ≤ i
      → with_owns other names (flat_map group (drop i xs)) ≡ all → names ≡ all
  owns_end group i xs names all past e = sym (ap (λ ys. with_owns other names (flat_map group ys)) (drop_all i xs past)) ∙ e

  -- two lists of names
  pub owns_both : (names xs ys first second : List (List ℕ)) → first ≡ with_owns other names xs → second ≡ with_owns other first ys → second ≡ with_owns other names (xs ++ ys)
  owns_both names xs ys first second e f = f ∙ ap (λ ns. with_owns other ns ys) e ∙ sym (with_owns-append names xs ys)

  -- three names
  pub owns_three : (names : List (List ℕ)) (a b c x y z : List ℕ) (first second third : List (List ℕ)) → x ≡ a → y ≡ b → z ≡ c
      → first ≡ with_own other names x → second ≡ with_own other first y → third ≡ with_own other second z
      → third ≡ with_own other (with_own other (with_own other names a) b) c
  owns_three names a b c x y z first second third p q r e f g =
      g ∙ ap₂ (with_own other) (f ∙ ap₂ (with_own other) (e ∙ ap (with_own other names) p) q) r
