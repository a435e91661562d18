-- Lists of different names.
use Rattle.std.proofs.Common.{◌≡◌, ℕ, ◌≤◌, ◌<◌, ◌||◌, Bool, true, false, cond, List, [], ◌∷◌, ◌++◌, length, arith, ap, refl, sym, subst, ◌∙◌}
use Rattle.std.specs.Prelude.{bytes_eq, filter}
use Rattle.std.proofs.lemmas.Bool.{false≢true, or_from, or_parts}
use Rattle.std.proofs.lemmas.List.Folds.{list_any-append}
use Rattle.std.proofs.lemmas.Slice.Eq.{bytes_eq-Decides}
use Rattle.names.proofs.ApartLaws.{NoRepeat}
use Rattle.plain_models.proofs.CardKinds.{Each}
use Rattle.vrt_model.proofs.Tests.{bytes_eq-sym}
use Rattle.vrt_model.specs.Lists.{has_name}

-- what stands behind others is not among them
pub apart_from : (xs ys : List (List ℕ)) → NoRepeat (xs ++ ys) → Each (λ y. has_name xs y ≡ false) ys
apart_from [] ys n = none ys
  where
    none : (zs : List (List ℕ)) → Each (λ y. has_name [] y ≡ false) zs
    none [] = tt
    none (z ∷ zs) = (refl, none zs)
apart_from (x ∷ xs) ys n = both ys (or_parts (has_name xs x) (has_name ys x) (sym (list_any-append (bytes_eq x) xs ys) ∙ n.0)).1 (apart_from xs ys n.1)
  where
    both : (zs : List (List ℕ)) → has_name zs x ≡ false → Each (λ y. has_name xs y ≡ false) zs → Each (λ y. has_name (x ∷ xs) y ≡ false) zs
    both [] e rest = tt
    both (z ∷ zs) e rest =
        let p = or_parts (bytes_eq x z) (has_name zs x) e in
        (or_from (bytes_eq z x) (has_name xs z) (bytes_eq-sym z x ∙ p.0) rest.0, both zs p.1 rest.1)

-- those that are a name
pub none_named : (name : List ℕ) (xs : List (List ℕ)) → has_name xs name ≡ false → filter (λ x. bytes_eq x name) xs ≡ []
none_named name [] e = refl
none_named name (x ∷ xs) e =
    let p = or_parts (bytes_eq name x) (has_name xs name) e in
    ap (λ (t : Bool). cond t (x ∷ filter (λ y. bytes_eq y name) xs) (filter (λ y. bytes_eq y name) xs)) (bytes_eq-sym x name ∙ p.0) ∙ none_named name xs p.1

-- of different names at most one is
pub one_named : (name : List ℕ) (xs : List (List ℕ)) → NoRepeat xs → length (filter (λ x. bytes_eq x name) xs) ≤ 1
one_named name [] n = omega arith
one_named name (x ∷ xs) n = by_test (bytes_eq x name) refl (one_named name xs n.1)
  where
    by_test : (b : Bool) → bytes_eq x name ≡ b → length (filter (λ y. bytes_eq y name) xs) ≤ 1 → length (cond b (x ∷ filter (λ y. bytes_eq y name) xs) (filter (λ y. bytes_eq y name) xs)) ≤ 1
    by_test true e rest =
        let is : x ≡ name = (bytes_eq-Decides x name).0 e in
        let none = ap length (none_named name xs (subst (λ (z : List ℕ). has_name xs z ≡ false) is n.0)) in
        omega (arith, none)
    by_test false e rest = rest

-- one is, where the name is there
pub some_named : (name : List ℕ) (xs : List (List ℕ)) → has_name xs name ≡ true → 0 < length (filter (λ x. bytes_eq x name) xs)
some_named name [] e = absurd (false≢true e)
some_named name (x ∷ xs) e = by_test (bytes_eq x name) refl (λ t. some_named name xs t)
  where
    by_test : (b : Bool) → bytes_eq x name ≡ b → (has_name xs name ≡ true → 0 < length (filter (λ y. bytes_eq y name) xs)) → 0 < length (cond b (x ∷ filter (λ y. bytes_eq y name) xs) (filter (λ y. bytes_eq y name) xs))
    by_test true f rest = omega arith
    by_test false f rest = rest (ap (λ (t : Bool). t || has_name xs name) (sym (bytes_eq-sym name x ∙ f)) ∙ e)
