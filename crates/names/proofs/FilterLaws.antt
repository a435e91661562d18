-- Lists that are filtered, and the names that are left.
use Rattle.std.proofs.Common.{◌≡◌, ◌∷◌, ◌||◌, ◌&&◌, [], ℕ, suc, not, List, Bool, true, false, cond, filter, Option, Some, refl, ap, ap₂, sym, ◌∙◌}
use Rattle.std.specs.Prelude.{bytes_eq, find, slice_get}
use Rattle.std.proofs.lemmas.Slice.Eq.{bytes_eq-Decides}
pub use Rattle.vrt_model.proofs.Lists.{filter_twice}
use Rattle.vrt_model.specs.Lists.{At, has_name}

-- two tests that agree on the items
pub filter_same : {X : Type 0} (p q : X → Bool) (xs : List X) → ((i : ℕ) (x : X) → At xs i x → p x ≡ q x) → filter p xs ≡ filter q xs
filter_same p q [] h = refl
filter_same {X} p q (x ∷ xs) h =
    ap₂ (λ (b : Bool) (rest : List X). cond b (x ∷ rest) rest) (h 0 x refl) (filter_same p q xs (λ i y e. h (suc i) y e))

-- a test that all items pass
pub filter_all : {X : Type 0} (p : X → Bool) (xs : List X) → ((i : ℕ) (x : X) → At xs i x → p x ≡ true) → filter p xs ≡ xs
filter_all p [] h = refl
filter_all {X} p (x ∷ xs) h =
    ap₂ (λ (b : Bool) (rest : List X). cond b (x ∷ rest) rest) (h 0 x refl) (filter_all p xs (λ i y e. h (suc i) y e))

-- the first item that is kept is the one that is found
pub first_is_found : {X : Type 0} (p : X → Bool) (xs : List X) → slice_get (filter p xs) 0 ≡ find p xs
first_is_found p [] = refl
first_is_found {X} p (x ∷ xs) = by_test (p x) (filter p xs) (find p xs) (first_is_found p xs)
  where
    by_test : (b : Bool) (ys : List X) (o : Option X) → slice_get ys 0 ≡ o → slice_get (cond b (x ∷ ys) ys) 0 ≡ cond b (Some x) o
    by_test true ys o e = refl
    by_test false ys o e = e

-- tests that agree find the same item
pub find_same : {X : Type 0} (p q : X → Bool) → ((x : X) → p x ≡ q x) → (xs : List X) → find p xs ≡ find q xs
find_same p q same [] = refl
find_same p q same (x ∷ xs) = ap₂ (λ t o. cond t (Some x) o) (same x) (find_same p q same xs)

-- a name is among the filtered names where it passes and is among the names
pub has_name_filter : (p : List ℕ → Bool) (xs : List (List ℕ)) (name : List ℕ) → has_name (filter p xs) name ≡ (p name && has_name xs name)
has_name_filter p [] name = none (p name) where
  none : (b : Bool) → false ≡ (b && false)
  none true = refl
  none false = refl
has_name_filter p (x ∷ xs) name = by_test (p x) (bytes_eq name x) refl refl (has_name_filter p xs name) where
  by_test : (b same : Bool) → p x ≡ b → bytes_eq name x ≡ same → has_name (filter p xs) name ≡ (p name && has_name xs name)
      → has_name (cond b (x ∷ filter p xs) (filter p xs)) name ≡ (p name && (bytes_eq name x || has_name xs name))
  by_test true true h s e =
      let is : p name ≡ true = ap p ((bytes_eq-Decides name x).0 s) ∙ h in
      ap (λ (b : Bool). b || has_name (filter p xs) name) s ∙ sym (ap₂ (λ (b c : Bool). b && (c || has_name xs name)) is s)
  by_test true false h s e =
      ap (λ (b : Bool). b || has_name (filter p xs) name) s ∙ e ∙ sym (ap (λ (c : Bool). p name && (c || has_name xs name)) s)
  by_test false true h s e =
      let is : p name ≡ false = ap p ((bytes_eq-Decides name x).0 s) ∙ h in
      e ∙ ap (λ (b : Bool). b && has_name xs name) is ∙ sym (ap (λ (b : Bool). b && (bytes_eq name x || has_name xs name)) is)
  by_test false false h s e = e ∙ sym (ap (λ (c : Bool). p name && (c || has_name xs name)) s)

-- the names that are not among none are all
pub filter_new : (xs : List (List ℕ)) → filter (λ y. not (has_name [] y)) xs ≡ xs
filter_new [] = refl
filter_new (x ∷ xs) = ap (λ rest. x ∷ rest) (filter_new xs)
