-- Steps in order, in plain words, are sorted by their keys.
use Rattle.std.proofs.Common.{◌≡◌, ℕ, ◌<◌, true, List, [], ◌∷◌, inl, inr, refl, subst, sym}
use Rattle.fault_places.proofs.SortedLists.{behind_front}
use Rattle.fault_places.specs.PhaseSpots.{IsSooner, IsSortedBy, IsStepBefore, Step, OfInstance, OfPart, step_key, step_rank}
use Rattle.vrt_model.specs.Comparison.{Comparison}
use Rattle.vrt_model.specs.Lists.{At}
use Rattle.vrt_model.specs.Places.{comes_before, of_instance, of_net}
use Rattle.vrt_model.proofs.FirstFinding.{less_head}

module _ (k : Comparison) (phase : ℕ) (rank : ℕ → ℕ) where
  -- what stands behind the rank
  abbrev rest_of : Step → List ℕ
  rest_of (OfPart first nets) = of_net ∷ first ∷ []
  rest_of (OfInstance at) = of_instance ∷ at ∷ []

  key_is : (x : Step) → step_key k phase rank x ≡ step_rank k phase rank x ∷ rest_of x
  key_is (OfPart first nets) = refl
  key_is (OfInstance at) = refl

  rest_before : (x y : Step) → IsSooner x y → comes_before (rest_of x) (rest_of y) ≡ true
  rest_before (OfPart first nets) (OfPart second others) lt = behind_front (of_net ∷ []) (first ∷ []) (second ∷ []) (less_head first second [] [] lt)
  rest_before (OfPart first nets) (OfInstance at) lt = refl
  rest_before (OfInstance at) (OfPart first nets) lt = absurd lt
  rest_before (OfInstance at) (OfInstance there) lt = behind_front (of_instance ∷ []) (at ∷ []) (there ∷ []) (less_head at there [] [] lt)

  key_before : (x y : Step) → IsStepBefore k phase rank x y → comes_before (step_rank k phase rank x ∷ rest_of x) (step_rank k phase rank y ∷ rest_of y) ≡ true
  key_before x y (inl lt) = less_head (step_rank k phase rank x) (step_rank k phase rank y) (rest_of x) (rest_of y) lt
  key_before x y (inr same) =
      subst (λ (r : ℕ). comes_before (step_rank k phase rank x ∷ rest_of x) (r ∷ rest_of y) ≡ true) same.0
      (behind_front (step_rank k phase rank x ∷ []) (rest_of x) (rest_of y) (rest_before x y same.1))

  pub step_order : (steps : List Step) → ((i j : ℕ) (x y : Step) → At steps i x → At steps j y → i < j → IsStepBefore k phase rank x y)
      → IsSortedBy (step_key k phase rank) steps
  step_order steps before i j x y a b lt =
      subst (λ (l : List ℕ). comes_before l (step_key k phase rank y) ≡ true) (sym (key_is x))
      (subst (λ (l : List ℕ). comes_before (step_rank k phase rank x ∷ rest_of x) l ≡ true) (sym (key_is y)) (key_before x y (before i j x y a b lt)))
