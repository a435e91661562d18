-- The places of names.
use Rattle.std.proofs.Common.{◌≡◌, ◌∷◌, ◌||◌, [], ℕ, suc, List, Bool, true, false, cond, Option, Some, None, option_map, refl, sym, ◌∙◌}
use Rattle.std.specs.Prelude.{bytes_eq, get_or}
use Rattle.std.specs.List.{position}
use Rattle.std.proofs.lemmas.List.Quantifiers.{position-Some}
use Rattle.std.proofs.lemmas.Option.{none-some}
use Rattle.std.proofs.lemmas.Slice.Eq.{bytes_eq-Decides}
use Rattle.names.proofs.PlaceLaws.{place_cons}
use Rattle.vrt_model.specs.Lists.{has_name}

-- ---- places

-- a name that has no place is not there
pub no_place : (names : List (List ℕ)) (name : List ℕ) → position (bytes_eq name) names ≡ None → has_name names name ≡ false
no_place [] name e = refl
no_place (x ∷ names) name e = by_test (bytes_eq name x) (position (bytes_eq name) names) (sym (place_cons (bytes_eq name) x names) ∙ e) (no_place names name) where
  by_test : (b : Bool) (o : Option ℕ) → cond b (Some 0) (option_map suc o) ≡ None → (o ≡ None → has_name names name ≡ false) → (b || has_name names name) ≡ false
  by_test true o h rest = absurd (none-some 0 (sym h))
  by_test false None h rest = rest refl
  by_test false (Some n) h rest = absurd (none-some (suc n) (sym h))

-- two names at one place are the same
pub one_place : (names : List (List ℕ)) (a b : List ℕ) (at : ℕ) → position (bytes_eq a) names ≡ Some at → position (bytes_eq b) names ≡ Some at → bytes_eq a b ≡ true
one_place names a b at e f =
    let x = (bytes_eq-Decides a (get_or names at [])).0 (position-Some (bytes_eq a) names at [] e).1 in
    let y = (bytes_eq-Decides b (get_or names at [])).0 (position-Some (bytes_eq b) names at [] f).1 in
    (bytes_eq-Decides a b).1 (x ∙ sym y)
