-- What is found in a list of places that is made item by item, and over other cases.
use Rattle.std.proofs.Common.{◌≡◌, ℕ, zero, suc, ◌<◌, ◌⊎◌, Bool, true, List, [], ◌∷◌, arith, ap, refl, subst, sym, inl, inr}
use Rattle.std.specs.Prelude.{◌↔◌, flat_map}
use Rattle.std.proofs.lemmas.Option.{same_Some}
use Rattle.fault_places.proofs.SearchLaws.{clear_stages, earlier_stage, later_stage}
use Rattle.fault_places.specs.PhaseSpots.{Step, OfInstance, OfPart, spots_at, spots_of}
use Rattle.fault_places.specs.Searches.{IsClearOf, IsFoundIn, Spot}
use Rattle.vrt_model.proofs.Lists.{map_among}
use Rattle.vrt_model.proofs.Members.{among_flat_map, among_map, at_none, flat_map_among}
use Rattle.vrt_model.specs.Lists.{At, Among}
use Rattle.vrt_model.specs.declared.verdict.FaultKind.{FaultKind}
use Rattle.vrt_model.specs.declared.verdict.FaultKind.TheVariants.{Fight, Float, Constraint}

abbrev pub spot : FaultKind → ℕ → Spot
spot kind n = record { kind = kind; at = n }

-- ---- item by item

module _ (X W : Type 0) (Fault : Spot → W → Type 0) (care : W → Bool) (make : X → List Spot) where
  pub clear_listed : (xs : List X) → ((j : ℕ) (x : X) → At xs j x → IsClearOf Fault care (make x)) → IsClearOf Fault care (flat_map make xs)
  clear_listed [] each i y v e met = absurd (at_none i y e)
  clear_listed (x ∷ xs) each i y v e met =
      clear_stages W Fault care (make x) (flat_map make xs) (each zero x refl) (clear_listed xs (λ j z at. each (suc j) z at)) i y v e met

  -- where nothing is found at the places of the items before one, what is found first at its places is the first of all
  pub found_listed : (f : W → Bool) (y : Spot) (xs : List X) (k : ℕ) (x : X) → At xs k x
      → ((j : ℕ) (z : X) → j < k → At xs j z → IsClearOf Fault care (make z)) → IsFoundIn Fault care f (make x) y → IsFoundIn Fault care f (flat_map make xs) y
  found_listed f y [] k x there before found = absurd (at_none k x there)
  found_listed f y (z ∷ zs) zero x there before found =
      earlier_stage W Fault care f (make z) (flat_map make zs) y (subst (λ (w : X). IsFoundIn Fault care f (make w) y) (sym (same_Some z x there)) found)
  found_listed f y (z ∷ zs) (suc k) x there before found =
      later_stage W Fault care f (make z) (flat_map make zs) y (before zero z (omega arith) refl)
      (found_listed f y zs k x there (λ j w lt e. before (suc j) w (omega (arith, lt)) e) found)

-- ---- at one number

module _ (W : Type 0) (Fault : Spot → W → Type 0) (care : W → Bool) (n : ℕ) where
  -- no fault of this kind stands there in any case of care
  abbrev IsNone : FaultKind → Type 0
  IsNone kind = (v : W) → care v ≡ true → ¬ Fault (spot kind n) v

  abbrev IsExact : (W → Bool) → FaultKind → Type 0
  IsExact f kind = (v : W) → (f v ≡ true) ↔ ((care v ≡ true) × Fault (spot kind n) v)

  pub clear_one : (kind : FaultKind) → IsNone kind → IsClearOf Fault care (spots_at (kind ∷ []) n)
  clear_one kind none zero y v e met = subst (λ (x : Spot). ¬ Fault x v) (same_Some (spot kind n) y e) (none v met)
  clear_one kind none (suc i) y v e met = absurd (at_none i y e)

  pub clear_both : (first second : FaultKind) → IsNone first → IsNone second → IsClearOf Fault care (spots_at (first ∷ second ∷ []) n)
  clear_both first second one two zero y v e met = subst (λ (x : Spot). ¬ Fault x v) (same_Some (spot first n) y e) (one v met)
  clear_both first second one two (suc i) y v e met = clear_one second two i y v e met

  pub found_one : (f : W → Bool) (kind : FaultKind) → IsExact f kind → IsFoundIn Fault care f (spots_at (kind ∷ []) n) (spot kind n)
  found_one f kind exact = record { place = 0; stands = refl; exact = exact; before = λ i y v lt e met. absurd (omega (arith, lt)) }

  found_first : (f : W → Bool) (first second : FaultKind) → IsExact f first → IsFoundIn Fault care f (spots_at (first ∷ second ∷ []) n) (spot first n)
  found_first f first second exact = record { place = 0; stands = refl; exact = exact; before = λ i y v lt e met. absurd (omega (arith, lt)) }

  found_second : (f : W → Bool) (first second : FaultKind) → IsExact f second → IsNone first → IsFoundIn Fault care f (spots_at (first ∷ second ∷ []) n) (spot second n)
  found_second f first second exact none = record { place = 1; stands = refl; exact = exact; before = before }
    where
      before : (i : ℕ) (y : Spot) (v : W) → i < 1 → At (spots_at (first ∷ second ∷ []) n) i y → care v ≡ true → ¬ Fault y v
      before zero y v lt e met = subst (λ (x : Spot). ¬ Fault x v) (same_Some (spot first n) y e) (none v met)
      before (suc i) y v lt e met = absurd (omega (arith, lt))

  -- of two kinds the first, or the second where the first stands nowhere
  pub found_either : (f : W → Bool) (first second kind : FaultKind) → (kind ≡ first) ⊎ (kind ≡ second) → IsExact f kind → (kind ≡ second → IsNone first)
      → IsFoundIn Fault care f (spots_at (first ∷ second ∷ []) n) (spot kind n)
  found_either f first second kind (inl e) exact none =
      subst (λ (q : FaultKind). IsFoundIn Fault care f (spots_at (first ∷ second ∷ []) n) (spot q n)) (sym e) (found_first f first second (subst (IsExact f) e exact))
  found_either f first second kind (inr e) exact none =
      subst (λ (q : FaultKind). IsFoundIn Fault care f (spots_at (first ∷ second ∷ []) n) (spot q n)) (sym e) (found_second f first second (subst (IsExact f) e exact) (none e))

-- ---- the places of steps

-- a net of a part has a place for each of the two kinds
pub net_spot : (steps : List Step) (first : ℕ) (nets : List ℕ) (kind : FaultKind) (n : ℕ) → Among steps (OfPart first nets) → Among nets n
    → Among (Fight ∷ Float ∷ []) kind → Among (flat_map spots_of steps) (spot kind n)
net_spot steps first nets kind n m i is =
    flat_map_among spots_of steps (OfPart first nets) (spot kind n) m
    (flat_map_among (spots_at (Fight ∷ Float ∷ [])) nets n (spot kind n) i (map_among (λ (q : FaultKind). spot q n) (Fight ∷ Float ∷ []) kind is))

-- the kinds at the places of steps
pub step_kinds : (steps : List Step) (y : Spot) → Among (flat_map spots_of steps) y → (y.kind ≡ Fight) ⊎ ((y.kind ≡ Float) ⊎ (y.kind ≡ Constraint))
step_kinds steps y m = let from = among_flat_map spots_of steps y m in by_step from.0 from.2
  where
    by_kind : (kinds : List FaultKind) (n : ℕ) → Among (spots_at kinds n) y → Among kinds y.kind
    by_kind kinds n m =
        let from = among_map (λ (q : FaultKind). spot q n) kinds y m in subst (Among kinds) (ap (λ (x : Spot). x.kind) from.2) from.1

    of_two : Among (Fight ∷ Float ∷ []) y.kind → (y.kind ≡ Fight) ⊎ ((y.kind ≡ Float) ⊎ (y.kind ≡ Constraint))
    of_two (zero, e) = inl (sym (same_Some Fight y.kind e))
    of_two (suc zero, e) = inr (inl (sym (same_Some Float y.kind e)))
    of_two (suc (suc i), e) = absurd (at_none i y.kind e)

    of_one : Among (Constraint ∷ []) y.kind → (y.kind ≡ Fight) ⊎ ((y.kind ≡ Float) ⊎ (y.kind ≡ Constraint))
    of_one (zero, e) = inr (inr (sym (same_Some Constraint y.kind e)))
    of_one (suc i, e) = absurd (at_none i y.kind e)

    by_step : (x : Step) → Among (spots_of x) y → (y.kind ≡ Fight) ⊎ ((y.kind ≡ Float) ⊎ (y.kind ≡ Constraint))
    by_step (OfPart first nets) m =
        let from = among_flat_map (spots_at (Fight ∷ Float ∷ [])) nets y m in of_two (by_kind (Fight ∷ Float ∷ []) from.0 from.2)
    by_step (OfInstance at) m = of_one (by_kind (Constraint ∷ []) at m)
