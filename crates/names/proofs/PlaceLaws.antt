-- The places at which names stand.
use Rattle.std.proofs.Common.{◌≡◌, ◌<◌, ◌+◌, ◌∷◌, ◌++◌, ◌||◌, [], ℕ, zero, suc, not, List, Bool, true, false, cond, map, nat_lt, length, get_or, Option, Some, None, option_map, refl, ap, ap₂, sym, ◌∙◌, arith}
use Rattle.std.specs.Prelude.{bytes_eq, is_some, slice_get}
use Rattle.std.specs.List.{list_any, position, position_or_len}
use Rattle.std.proofs.lemmas.Bool.{or_right}
use Rattle.std.proofs.lemmas.Bool.Decides.{nat_tests}
use Rattle.std.proofs.lemmas.List.{length-map}
use Rattle.std.proofs.lemmas.List.Quantifiers.{position-Some}
use Rattle.std.proofs.lemmas.Option.{same_Some, slice_get-get_or, slice_get_within}
use Rattle.std.proofs.lemmas.Slice.Eq.{bytes_eq-Decides}
use Rattle.vrt_model.proofs.Tests.{bytes_eq-sym}
use Rattle.vrt_model.specs.Inputs.{AllApart}
use Rattle.vrt_model.specs.Lists.{At, has_name}
use Rattle.names.specs.Names.{with_name}
use Rattle.names.proofs.ApartLaws.{apart_behind}

-- the first place in a list with one item in front
pub place_cons : {X : Type 0} (p : X → Bool) (x : X) (xs : List X) → position p (x ∷ xs) ≡ cond (p x) (Some 0) (option_map suc (position p xs))
place_cons p x xs = by_test (p x) (position_or_len p xs) (length xs)
  where
    shifted : (t : Bool) (n : ℕ) → cond t (Some (1 + n)) None ≡ option_map suc (cond t (Some n) None)
    shifted true n = ap Some (omega arith)
    shifted false n = refl

    further : (n count : ℕ) → nat_lt (1 + n) (suc count) ≡ nat_lt n count
    further n count = grind (arith, nat_tests)

    first : (count : ℕ) → nat_lt 0 (suc count) ≡ true
    first count = grind (arith, nat_tests)

    by_test : (b : Bool) (n count : ℕ) → cond (nat_lt (cond (not b) (1 + n) 0) (suc count)) (Some (cond (not b) (1 + n) 0)) None ≡ cond b (Some 0) (option_map suc (cond (nat_lt n count) (Some n) None))
    by_test true n count = ap (λ (t : Bool). cond t (Some 0) None) (first count)
    by_test false n count = ap (λ (t : Bool). cond t (Some (1 + n)) None) (further n count) ∙ shifted (nat_lt n count) n

-- a name that stands at a place is among the names
pub at_among : (xs : List (List ℕ)) (i : ℕ) (name : List ℕ) → At xs i name → has_name xs name ≡ true
at_among [] i name e = cc
at_among (x ∷ xs) zero name e =
    ap (λ (b : Bool). b || has_name xs name) ((bytes_eq-Decides name x).1 (sym (same_Some x name e)))
at_among (x ∷ xs) (suc i) name e = or_right (bytes_eq name x) (has_name xs name) (at_among xs i name e)

first_place : (xs : List (List ℕ)) (k : ℕ) (name : List ℕ) → AllApart bytes_eq xs → At xs k name → position_or_len (bytes_eq name) xs ≡ k
first_place [] k name apart e = cc
first_place (x ∷ xs) zero name apart e =
    ap (λ (b : Bool). cond (not b) (1 + position_or_len (bytes_eq name) xs) 0) ((bytes_eq-Decides name x).1 (sym (same_Some x name e)))
first_place (x ∷ xs) (suc k) name apart e =
    ap (λ (b : Bool). cond (not b) (1 + position_or_len (bytes_eq name) xs) 0) (differs (bytes_eq name x) refl)
    ∙ more (position_or_len (bytes_eq name) xs) (first_place xs k name (apart_behind x xs apart) e) where
      differs : (b : Bool) → bytes_eq name x ≡ b → bytes_eq name x ≡ false
      differs true h = let n : suc k ≡ 0 = apart (suc k) 0 name x e refl h in absurd (omega (arith, n))
      differs false h = h

      more : (n : ℕ) → n ≡ k → 1 + n ≡ suc k
      more n h = omega (arith, h)

-- the place of a name that does not repeat
pub place_is : (xs : List (List ℕ)) (k : ℕ) (name : List ℕ) → AllApart bytes_eq xs → At xs k name → position (bytes_eq name) xs ≡ Some k
place_is xs k name apart e =
    let lt : k < length xs = slice_get_within xs k name e in
    ap (λ (n : ℕ). cond (nat_lt n (length xs)) (Some n) None) (first_place xs k name apart e) ∙ within k (length xs) lt where
      within : (n count : ℕ) → n < count → cond (nat_lt n count) (Some n) None ≡ Some n
      within n count lt = let t : nat_lt n count ≡ true = grind (arith, nat_tests, lt) in ap (λ (b : Bool). cond b (Some n) None) t

no_place : {X : Type 0} (p : X → Bool) (xs : List X) → list_any p xs ≡ false → position_or_len p xs ≡ length xs
no_place p [] e = refl
no_place p (x ∷ xs) e = by_test (p x) refl (λ h. no_place p xs h) where
  next : (n count : ℕ) → n ≡ count → 1 + n ≡ suc count
  next n count e = omega (arith, e)

  by_test : (b : Bool) → p x ≡ b → (list_any p xs ≡ false → position_or_len p xs ≡ length xs) → cond (not (p x)) (1 + position_or_len p xs) 0 ≡ suc (length xs)
  by_test true h more = let no : true ≡ false = ap (λ (b : Bool). b || list_any p xs) (sym h) ∙ e in cc
  by_test false h more =
      let n : position_or_len p xs ≡ length xs = more (ap (λ (b : Bool). b || list_any p xs) (sym h) ∙ e) in
      ap (λ (b : Bool). cond (not b) (1 + position_or_len p xs) 0) h ∙ next (position_or_len p xs) (length xs) n

-- a name that is not there has no place
pub place_none : (xs : List (List ℕ)) (name : List ℕ) → has_name xs name ≡ false → position (bytes_eq name) xs ≡ None
place_none xs name e =
    ap (λ (n : ℕ). cond (nat_lt n (length xs)) (Some n) None) (no_place (bytes_eq name) xs e) ∙ past (length xs) where
      past : (n : ℕ) → cond (nat_lt n n) (Some n) None ≡ None
      past n = let t : nat_lt n n ≡ false = grind (arith, nat_tests) in ap (λ (b : Bool). cond b (Some n) None) t

-- ---- items by their names

-- some item has a name where the name is among theirs
pub any_named : {X : Type 0} (name : X → List ℕ) (n : List ℕ) (xs : List X) → has_name (map name xs) n ≡ list_any (λ x. bytes_eq (name x) n) xs
any_named name n [] = refl
any_named name n (x ∷ xs) = ap₂ (λ p q. p || q) (bytes_eq-sym n (name x)) (any_named name n xs)

place_same : {X : Type 0} (name : X → List ℕ) (n : List ℕ) (xs : List X) → position_or_len (bytes_eq n) (map name xs) ≡ position_or_len (λ x. bytes_eq (name x) n) xs
place_same name n [] = refl
place_same name n (x ∷ xs) = ap₂ (λ b k. cond (not b) (1 + k) 0) (bytes_eq-sym n (name x)) (place_same name n xs)

-- an item has the place of its name
pub position_same : {X : Type 0} (name : X → List ℕ) (n : List ℕ) (xs : List X) → position (bytes_eq n) (map name xs) ≡ position (λ x. bytes_eq (name x) n) xs
position_same name n xs = ap₂ (λ k count. cond (nat_lt k count) (Some k) None) (place_same name n xs) (length-map xs name)

-- a place that is found is one of the list
pub placed_within : {X : Type 0} (p : X → Bool) (xs : List X) (n : ℕ) → position p xs ≡ Some n → n < length xs
placed_within p [] n e = cc
placed_within p (x ∷ xs) n e = (position-Some p (x ∷ xs) n x e).0

any_within : {X : Type 0} (p : X → Bool) (xs : List X) → list_any p xs ≡ nat_lt (position_or_len p xs) (length xs)
any_within p [] = refl
any_within p (x ∷ xs) = by_test (p x) (list_any p xs) (position_or_len p xs) (length xs) (any_within p xs) where
  by_test : (b a : Bool) (n count : ℕ) → a ≡ nat_lt n count → (b || a) ≡ nat_lt (cond (not b) (1 + n) 0) (suc count)
  by_test true a n count e = grind (arith, nat_tests)
  by_test false a n count e = e ∙ grind (arith, nat_tests)

-- a place is found exactly where some item passes
pub any_placed : {X : Type 0} (p : X → Bool) (xs : List X) → list_any p xs ≡ is_some (position p xs)
any_placed p xs = any_within p xs ∙ by_test (nat_lt (position_or_len p xs) (length xs)) (position_or_len p xs) where
  by_test : (b : Bool) (n : ℕ) → b ≡ is_some (cond b (Some n) None)
  by_test true n = refl
  by_test false n = refl

-- a name that has a place is there, and stands at it
pub placed_there : (names : List (List ℕ)) (name : List ℕ) (n : ℕ) → position (bytes_eq name) names ≡ Some n → names ≡ with_name names name
placed_there names name n e =
    let there : has_name names name ≡ true = any_placed (bytes_eq name) names ∙ ap (λ (o : Option ℕ). is_some o) e in
    sym (ap (λ (b : Bool). cond b names (names ++ name ∷ [])) there)

pub placed_at : (names : List (List ℕ)) (name : List ℕ) (n : ℕ) → position (bytes_eq name) names ≡ Some n → slice_get names n ≡ Some name
placed_at names name n e =
    let found = position-Some (bytes_eq name) names n name e in
    slice_get-get_or names n name found.0 ∙ ap Some (sym ((bytes_eq-Decides name (get_or names n name)).0 found.1))
