-- Names that are added to a set, in groups.
use Rattle.std.proofs.Common.{◌≡◌, ◌<◌, ◌≤◌, ◌+◌, ◌++◌, ℕ, List, map, flat_map, length, drop, get_or, ap, sym, ◌∙◌}
use Rattle.std.proofs.lemmas.List.{drop_all, drop_more}
use Rattle.names.proofs.NameLaws.{with_names-append}
use Rattle.names.specs.Names.{with_names}

-- nothing is left
pub names_end : {X : Type 0} (name : X → List ℕ) (i : ℕ) (xs : List X) (names all : List (List ℕ)) → length xs ≤ i
    → with_names names (map name (drop i xs)) ≡ all → names ≡ all
names_end name i xs names all past e = sym (ap (λ ys. with_names names (map name ys)) (drop_all i xs past)) ∙ e

pub groups_end : {X : Type 0} (group : X → List (List ℕ)) (i : ℕ) (xs : List X) (names all : List (List ℕ)) → length xs ≤ i
    → with_names names (flat_map group (drop i xs)) ≡ all → names ≡ all
groups_end group i xs names all past e = sym (ap (λ ys. with_names names (flat_map group ys)) (drop_all i xs past)) ∙ e

-- one group more
pub groups_on : {X : Type 0} (group : X → List (List ℕ)) (i : ℕ) (xs : List X) (x : X) (names after all : List (List ℕ)) → i < length xs → x ≡ get_or xs i x
    → after ≡ with_names names (group x) → with_names names (flat_map group (drop i xs)) ≡ all → with_names after (flat_map group (drop (i + 1) xs)) ≡ all
groups_on group i xs x names after all lt is e so_far =
    ap (λ ns. with_names ns (flat_map group (drop (i + 1) xs))) e ∙ sym (with_names-append names (group x) (flat_map group (drop (i + 1) xs)))
    ∙ ap (λ y. with_names names (group y ++ flat_map group (drop (i + 1) xs))) is
    ∙ sym (ap (λ ys. with_names names (flat_map group ys)) (drop_more xs i x lt)) ∙ so_far

-- three lists of names
pub of_three : (names a b c first second third xs ys zs : List (List ℕ)) → xs ≡ a → ys ≡ b → zs ≡ c
    → first ≡ with_names names xs → second ≡ with_names first ys → third ≡ with_names second zs → third ≡ with_names names (a ++ (b ++ c))
of_three names a b c first second third xs ys zs p q r e f g =
    g ∙ ap (λ ns. with_names ns zs) (f ∙ ap (λ ns. with_names ns ys) e)
    ∙ ap (λ ns. with_names (with_names (with_names names ns) ys) zs) p ∙ ap (λ ns. with_names (with_names (with_names names a) ns) zs) q
    ∙ ap (with_names (with_names (with_names names a) b)) r
    ∙ sym (with_names-append (with_names names a) b c) ∙ sym (with_names-append names a (b ++ c))
