-- Lists within others, and names that do not repeat.
use Rattle.std.proofs.Common.{◌≡◌, ◌++◌, ◌∷◌, ◌&&◌, [], ℕ, List, Bool, true, false, map, option_map, refl, ap, ap₂, ◌∙◌}
use Rattle.std.specs.Prelude.{bytes_eq}
use Rattle.std.proofs.lemmas.Bool.{and_parts, or_from, or_parts}
use Rattle.std.proofs.lemmas.Option.{slice_get-map}
use Rattle.std.proofs.lemmas.Slice.Eq.{bytes_eq-Decides}
use Rattle.vrt_model.specs.Lists.{has_name}
use Rattle.names.proofs.ApartLaws.{NoRepeat, apart}
use Rattle.vrt_model.specs.Inputs.{AllApart}

-- the items of a list, in their order, within another list
pub data Within {X : Type 0} : List X → List X → Type 0 where
  nothing : Within [] []
  skips : {y : X} {xs ys : List X} → Within xs ys → Within xs (y ∷ ys)
  keeps : {x : X} {xs ys : List X} → Within xs ys → Within (x ∷ xs) (x ∷ ys)

pub within_all : {X : Type 0} (xs : List X) → Within xs xs
within_all [] = nothing
within_all (x ∷ xs) = keeps (within_all xs)

pub within_none : {X : Type 0} (ys : List X) → Within [] ys
within_none [] = nothing
within_none (y ∷ ys) = skips (within_none ys)

pub within_append : {X : Type 0} {xs ys vs ws : List X} → Within xs ys → Within vs ws → Within (xs ++ vs) (ys ++ ws)
within_append nothing w = w
within_append (skips v) w = skips (within_append v w)
within_append (keeps v) w = keeps (within_append v w)

-- two texts of each item that are the same
pub within_maps : {A B D : Type 0} (f : A → B) (g : B → List ℕ) (h : A → D) (k : D → List ℕ) → ((a : A) → g (f a) ≡ k (h a)) → (xs : List A) → map g (map f xs) ≡ map k (map h xs)
within_maps f g h k same [] = refl
within_maps f g h k same (x ∷ xs) = ap₂ (λ y ys. y ∷ ys) (same x) (within_maps f g h k same xs)

pub fewer : {xs ys : List (List ℕ)} → Within xs ys → (z : List ℕ) → has_name ys z ≡ false → has_name xs z ≡ false
fewer nothing z e = refl
fewer (skips {y} {xs} {ys} w) z e = fewer w z (or_parts (bytes_eq z y) (has_name ys z) e).1
fewer (keeps {x} {xs} {ys} w) z e = let both = or_parts (bytes_eq z x) (has_name ys z) e in or_from (bytes_eq z x) (has_name xs z) both.0 (fewer w z both.1)

pub no_repeat_within : {xs ys : List (List ℕ)} → Within xs ys → NoRepeat ys → NoRepeat xs
no_repeat_within nothing n = n
no_repeat_within (skips w) n = no_repeat_within w n.1
no_repeat_within (keeps {x} w) n = (fewer w x n.0, no_repeat_within w n.1)

-- items whose keys do not repeat are apart by each test that only the same keys pass
pub apart_by_key : {X : Type 0} (g : X → List ℕ) (same : X → X → Bool) → ((x y : X) → same x y ≡ true → g x ≡ g y) → (xs : List X) → NoRepeat (map g xs) → AllApart same xs
apart_by_key g same keys xs n i j x y hi hj e =
    apart (map g xs) n i j (g x) (g y) (slice_get-map g xs i ∙ ap (option_map g) hi) (slice_get-map g xs j ∙ ap (option_map g) hj) ((bytes_eq-Decides (g x) (g y)).1 (keys x y e))

pub two_same : (a b c d : List ℕ) → (bytes_eq a b && bytes_eq c d) ≡ true → (a ≡ b) × (c ≡ d)
two_same a b c d e = let both = and_parts (bytes_eq a b) (bytes_eq c d) e in ((bytes_eq-Decides a b).0 both.0, (bytes_eq-Decides c d).0 both.1)
