-- The paths of the places of an unrolled cell differ.
use Rattle.std.proofs.Common.{◌≡◌, ◌<◌, ◌≤◌, ◌+◌, ◌-◌, ◌++◌, ◌∷◌, [], ℕ, zero, suc, Bool, true, List, map, flat_map, length, refl, ap, sym, subst, ◌∙◌, arith, inl, inr, length-append}
use Rattle.std.proofs.lemmas.Bool.{cases_lt}
use Rattle.std.proofs.lemmas.Option.{same_Some}
use Rattle.place_paths.proofs.PathLaws.{cards_apart, path_on, path_over, same_count, same_step}
use Rattle.place_paths.specs.Paths.{GoesOn, same_card, step_at}
use Rattle.vrt_model.proofs.Lists.{at_left}
use Rattle.vrt_model.proofs.Members.{at_none}
use Rattle.vrt_model.specs.Comparison.{cell_at}
use Rattle.vrt_model.specs.FlatCircuit.{same_path}
use Rattle.vrt_model.specs.Inputs.{AllApart, IsDesign}
use Rattle.vrt_model.specs.Lists.{Among, At}
use Rattle.vrt_model.specs.Unrolled.{Place, Step, Top, all_places, deepest, instances_at, instances_from, own_count, own_nets, places_in, cell_named, net_at, top_place}
use Rattle.vrt_model.specs.declared.design.InstanceCard.{InstanceCard}

-- ---- lists

at_right : {X : Type 0} (xs ys : List X) (i : ℕ) (x : X) → length xs ≤ i → At (xs ++ ys) i x → At ys (i - length xs) x
at_right [] ys i x le e = let n : i ≡ i - 0 = omega arith in subst (λ (k : ℕ). At ys k x) n e
at_right (z ∷ xs) ys zero x le e = absurd (omega (arith, le))
at_right (z ∷ xs) ys (suc i) x le e =
    let n : i - length xs ≡ suc i - suc (length xs) = omega arith in subst (λ (k : ℕ). At ys k x) n (at_right xs ys i x (omega (arith, le)) e)

none_apart : {X : Type 0} (same : X → X → Bool) → AllApart same []
none_apart same i j x y here there alike = absurd (at_none i x here)

one_apart : {X : Type 0} (same : X → X → Bool) (z : X) → AllApart same (z ∷ [])
one_apart same z zero zero x y here there alike = refl
one_apart same z zero (suc j) x y here there alike = absurd (at_none j y there)
one_apart same z (suc i) j x y here there alike = absurd (at_none i x here)

-- two lists without repeats, of which none has what the other has
joined_apart : {X : Type 0} (same : X → X → Bool) (xs ys : List X) → AllApart same xs → AllApart same ys → ((x y : X) → Among xs x → Among ys y → same x y ≡ true → ⊥)
    → ((x y : X) → Among xs x → Among ys y → same y x ≡ true → ⊥) → AllApart same (xs ++ ys)
joined_apart same xs ys left right cross back i j x y here there alike =
    elim (cases_lt i (length xs)) [
      | inl li ↦ elim (cases_lt j (length xs)) [
        | inl lj ↦ left i j x y (at_left xs ys i x li here) (at_left xs ys j y lj there) alike
        | inr gj ↦ absurd (cross x y (i, at_left xs ys i x li here) (j - length xs, at_right xs ys j y gj there) alike)
      ]
      | inr gi ↦ elim (cases_lt j (length xs)) [
        | inl lj ↦ absurd (back y x (j, at_left xs ys j y lj there) (i - length xs, at_right xs ys i x gi here) alike)
        | inr gj ↦ let e = right (i - length xs) (j - length xs) x y (at_right xs ys i x gi here) (at_right xs ys j y gj there) alike in omega (arith, e, gi, gj)
      ]
    ]

-- ---- paths

longer : (xs : List Step) (a : Step) (rest : List Step) → length rest < length (xs ++ a ∷ rest)
longer xs a rest = let size = length-append xs (a ∷ rest) in omega (arith, size)

-- ---- places

abbrev same_place : Place → Place → Bool
same_place a b = same_path a.path b.path

module _ (t : Top) where
  only_path : (at x : Place) → Among (at ∷ []) x → x.path ≡ at.path
  only_path at x (zero, e) = sym (ap (λ (p : Place). p.path) (same_Some at x e))
  only_path at x (suc i, e) = absurd (at_none i x e)

  same_cards : (at x y : Place) (a b : InstanceCard) → GoesOn x (step_at t at a ∷ at.path) → GoesOn y (step_at t at b ∷ at.path) → same_place x y ≡ true → same_card a b ≡ true
  same_cards at x y a b p q alike =
      same_step p.0 q.0 (step_at t at a) (step_at t at b) at.path
      (subst (λ (path : List Step). same_path path (q.0 ++ step_at t at b ∷ at.path) ≡ true) p.1 (subst (λ (path : List Step). same_path x.path path ≡ true) q.1 alike))

  cards_differ : (depth : ℕ) → ((at : Place) → AllApart same_place (places_in t depth at)) → (at : Place) (base : ℕ) (cards : List InstanceCard) → AllApart same_card cards
      → AllApart same_place (flat_map (places_in t depth) (instances_from t at depth base cards))
  cards_differ depth each at base [] apart = none_apart same_place
  cards_differ depth each at base (card ∷ cards) apart =
      let inner : Place = record { cell = cell_named t.design card.cell; path = step_at t at card ∷ at.path; ports = map (net_at t at) card.nets; base = base } in
      let next : ℕ = base + own_count t.design t.rules depth (cell_at t.design (cell_named t.design card.cell)) in
      joined_apart same_place (places_in t depth inner) (flat_map (places_in t depth) (instances_from t at depth next cards)) (each inner)
      (cards_differ depth each at next cards (λ i j x y here there alike. let e = apart (suc i) (suc j) x y here there alike in omega (arith, e)))
      (λ x y m n alike.
      let other = path_over t depth at next cards y n in
      let e = apart 0 (suc other.1.0) card other.0 refl other.1.1 (same_cards at x y card other.0 (path_on t depth inner x m) (other.2, other.3) alike) in omega (arith, e))
      (λ x y m n alike.
      let other = path_over t depth at next cards y n in
      let e = apart (suc other.1.0) 0 other.0 card other.1.1 refl (same_cards at y x other.0 card (other.2, other.3) (path_on t depth inner x m) alike) in omega (arith, e))

  module _ (is : IsDesign t.design) where
    places_differ : (depth : ℕ) (at : Place) → AllApart same_place (places_in t depth at)
    places_differ zero at = one_apart same_place at
    places_differ (suc depth) at =
        let base : ℕ = at.base + length (own_nets t.design t.rules (cell_at t.design at.cell)) in
        let cards : List InstanceCard = (cell_at t.design at.cell).instances in
        let here = only_path at in
        joined_apart same_place (at ∷ []) (flat_map (places_in t depth) (instances_at t depth at)) (one_apart same_place at)
        (cards_differ depth (places_differ depth) at base cards (cards_apart t.design is at.cell))
        (λ x y m n alike.
        let other = path_over t depth at base cards y n in
        let size = same_count x.path y.path alike in
        let left = ap (λ (path : List Step). length path) (here x m) in
        let right = ap (λ (path : List Step). length path) other.3 in
        let more = longer other.2 (step_at t at other.0) at.path in omega (arith, size, left, right, more))
        (λ x y m n alike.
        let other = path_over t depth at base cards y n in
        let size = same_count y.path x.path alike in
        let left = ap (λ (path : List Step). length path) (here x m) in
        let right = ap (λ (path : List Step). length path) other.3 in
        let more = longer other.2 (step_at t at other.0) at.path in omega (arith, size, left, right, more))

    pub all_differ : AllApart same_place (all_places t)
    unfolding all_places
    all_differ = places_differ deepest (top_place t)

  first_in : (depth : ℕ) (at : Place) → At (places_in t depth at) 0 at
  first_in zero at = refl
  first_in (suc depth) at = refl

  -- the first place is the whole
  pub first_path : (at : Place) → At (all_places t) 0 at → at.path ≡ []
  unfolding all_places
  first_path at here = sym (ap (λ (p : Place). p.path) (same_Some (top_place t) at (sym (first_in deepest (top_place t)) ∙ here)))
