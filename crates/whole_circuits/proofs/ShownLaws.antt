-- What is left of a flat circuit, by marks at its places and by the definition.
use Rattle.std.proofs.Common.{◌≡◌, ℕ, suc, ◌+◌, ◌<◌, ◌||◌, ◌++◌, Bool, true, false, not, List, [], ◌∷◌, length, map, arith, subst, sym, refl, ◌∙◌, ap, ap₂}
use Rattle.std.specs.Prelude.{cond, drop, filter, flat_map, replicate}
use Rattle.std.specs.List.{enumerate_from}
use Rattle.std.proofs.lemmas.List.Folds.{flat_map-map}
use Rattle.std.proofs.lemmas.Option.{slice_get_within}
use Rattle.checked_chain.proofs.ChoiceLaws.{numbered, numbered_at}
use Rattle.net_places.specs.Links.{Bare, IsUnrolled, bare, shown as shown_place}
use Rattle.net_places.specs.declared.places.Place.{Place}
use Rattle.net_places.specs.declared.whole.Unrolled.{Unrolled}
use Rattle.whole_circuits.specs.Shown.{AreMarks, card_count, device_places, devices_left, instances_left, is_left_at, places_of}
use Rattle.whole_circuits.specs.declared.marks.Marks.{Marks}
use Rattle.vrt_model.proofs.Lists.{filter_among_same}
use Rattle.vrt_model.specs.CheckedParts.{checked_devices, checked_instances}
use Rattle.vrt_model.specs.Comparison.{cell_at}
use Rattle.vrt_model.specs.Cut.{Cut, NumberedPlace, is_inside_whole, is_left_out, numbered_places}
use Rattle.vrt_model.specs.FlatCircuit.{flat_device, flat_devices, flat_instance, flat_instances}
use Rattle.vrt_model.specs.Lists.{Among, At, mark_at}
use Rattle.vrt_model.specs.Unrolled.{Place as FlatPlace, Top, all_places}
use Rattle.vrt_model.specs.declared.circuit.Device.{Device}
use Rattle.vrt_model.specs.declared.circuit.FlatInstance.{FlatInstance}
use Rattle.vrt_model.specs.declared.design.Design.{Design}

-- ---- places by a table and by the definition

-- the numbers of devices by the places of two lists that show the same
counted_same : (design : Design) (n : ℕ) (places : List Place) (flat : List FlatPlace) → map shown_place places ≡ map bare flat
    → flat_map (places_of design) (enumerate_from n places) ≡ flat_map (λ (q : ℕ × FlatPlace). replicate (card_count design q.1.cell) q.0) (enumerate_from n flat)
counted_same design n [] [] e = refl
counted_same design n [] (at ∷ flat) e = absurd (let k = ap (λ (bs : List Bare). length bs) e in omega (arith, k))
counted_same design n (p ∷ places) [] e = absurd (let k = ap (λ (bs : List Bare). length bs) e in omega (arith, k))
counted_same design n (p ∷ places) (at ∷ flat) e =
    ap₂ (λ (xs ys : List ℕ). xs ++ ys) (ap (λ (k : ℕ). replicate (card_count design k) n) (cell_of e))
    (counted_same design (n + 1) places flat (ap (λ (bs : List Bare). drop 1 bs) e))
  where
    first_cell : List Bare → ℕ
    first_cell [] = 0
    first_cell (b ∷ bs) = b.cell

    cell_of : map shown_place (p ∷ places) ≡ map bare (at ∷ flat) → p.cell ≡ at.cell
    cell_of same = ap first_cell same

pub places_are : (t : Top) (design : Design) (unrolled : Unrolled) → t.design ≡ design → IsUnrolled t unrolled
    → flat_map (places_of design) (enumerate_from 0 unrolled.places) ≡ device_places t
places_are t design unrolled same is =
    ap (λ (d : Design). flat_map (places_of d) (enumerate_from 0 unrolled.places)) (sym same) ∙ counted_same t.design 0 unrolled.places (all_places t) is.places_are
    ∙ sym (flat_map-map (λ (p : NumberedPlace). replicate (card_count t.design p.at.cell) p.number) numbered (enumerate_from 0 (all_places t)))

-- ---- devices

-- the devices of one place, and those of the places behind it
one_place : {X : Type 0} (marks : Marks) (n : ℕ) (f : X → Device) (cards : List X) (places : List ℕ) (devices : List Device)
    → devices_left marks (replicate (length cards) n ++ places) (map f cards ++ devices) ≡ cond (is_left_at marks n) [] (map f cards) ++ devices_left marks places devices
one_place marks n f [] places devices = none (is_left_at marks n)
  where
    none : (b : Bool) → devices_left marks places devices ≡ cond b [] [] ++ devices_left marks places devices
    none true = refl
    none false = refl
one_place {X} marks n f (card ∷ cards) places devices =
    ap (λ (ds : List Device). cond (is_left_at marks n) [] (f card ∷ []) ++ ds) (one_place marks n f cards places devices) ∙ both (is_left_at marks n)
  where
    both : (b : Bool) → cond b [] (f card ∷ []) ++ (cond b [] (map f cards) ++ devices_left marks places devices)
        ≡ cond b [] (f card ∷ map f cards) ++ devices_left marks places devices
    both true = refl
    both false = refl

module _ (t : Top) where
  abbrev at_place : NumberedPlace → List Device
  at_place p = map (flat_device t p.at) (cell_at t.design p.at.cell).devices

  pub all_devices : flat_devices t ≡ flat_map at_place (numbered_places t)
  all_devices = numbered_devices 0 (all_places t)
    where
      numbered_devices : (n : ℕ) (flat : List FlatPlace)
          → flat_map (λ (at : FlatPlace). map (flat_device t at) (cell_at t.design at.cell).devices) flat ≡ flat_map at_place (map numbered (enumerate_from n flat))
      numbered_devices n [] = refl
      numbered_devices n (at ∷ flat) =
          ap (λ (ds : List Device). map (flat_device t at) (cell_at t.design at.cell).devices ++ ds) (numbered_devices (n + 1) flat)

module _ (t : Top) (marks : Marks) where
  left_in : (ps : List NumberedPlace)
      → devices_left marks (flat_map (λ (p : NumberedPlace). replicate (card_count t.design p.at.cell) p.number) ps) (flat_map (at_place t) ps)
      ≡ flat_map (at_place t) (filter (λ (p : NumberedPlace). not (is_left_at marks p.number)) ps)
  left_in [] = refl
  left_in (p ∷ ps) =
      one_place marks p.number (flat_device t p.at) (cell_at t.design p.at.cell).devices (flat_map (λ (q : NumberedPlace). replicate (card_count t.design q.at.cell) q.number) ps) (flat_map (at_place t) ps)
      ∙ ap (λ (ds : List Device). cond (is_left_at marks p.number) [] (at_place t p) ++ ds) (left_in ps) ∙ by_test (is_left_at marks p.number)
    where
      by_test : (b : Bool)
          → cond b [] (at_place t p) ++ flat_map (at_place t) (filter (λ (q : NumberedPlace). not (is_left_at marks q.number)) ps)
          ≡ flat_map (at_place t) (cond (not b) (p ∷ filter (λ (q : NumberedPlace). not (is_left_at marks q.number)) ps) (filter (λ (q : NumberedPlace). not (is_left_at marks q.number)) ps))
      by_test true = refl
      by_test false = refl

-- the marks say which places are left out
left_is : (cut : Cut) (marks : Marks) → AreMarks cut marks → (p : NumberedPlace) → Among (numbered_places cut.top) p → is_left_at marks p.number ≡ is_left_out cut p
left_is cut marks are p m =
    let at = numbered_at cut.top m.0 p m.1 in
    let here = subst (λ (n : ℕ). At (all_places cut.top) n p.at) (sym at.0) at.1 in
    ap₂ (λ (x y : Bool). x || y) (are.whole p.number)
    (are.inside p.number p.at (subst (λ (n : ℕ). p.number < n) (sym are.count) (slice_get_within (all_places cut.top) p.number p.at here)) here)

pub devices_are : (cut : Cut) (marks : Marks) (places : List ℕ) (devices : List Device) → AreMarks cut marks → places ≡ device_places cut.top → devices ≡ flat_devices cut.top
    → devices_left marks places devices ≡ checked_devices cut
devices_are cut marks places devices are owners all =
    ap₂ (devices_left marks) owners (all ∙ all_devices cut.top) ∙ left_in cut.top marks (numbered_places cut.top)
    ∙ ap (flat_map (at_place cut.top))
    (filter_among_same (λ (p : NumberedPlace). not (is_left_at marks p.number)) (λ (p : NumberedPlace). not (is_left_out cut p)) (numbered_places cut.top)
    (λ p m. ap not (left_is cut marks are p m)))

pub no_devices : (marks : Marks) (places : List ℕ) → devices_left marks places [] ≡ []
no_devices marks [] = refl
no_devices marks (place ∷ places) = refl

-- ---- instances

module _ (cut : Cut) (inside : List Bool) where
  kept : (n : ℕ) (flat : List FlatPlace) → ((i : ℕ) (at : FlatPlace) → At flat i at → mark_at inside (n + i) ≡ is_inside_whole cut at)
      → instances_left inside n (map flat_instance flat) ≡ map flat_instance (filter (λ (at : FlatPlace). not (is_inside_whole cut at)) flat)
  kept n [] are = refl
  kept n (at ∷ flat) are =
      ap₂ (λ (b : Bool) (is : List FlatInstance). cond b [] (flat_instance at ∷ []) ++ is) (let number : n ≡ n + 0 = omega arith in ap (mark_at inside) number ∙ are 0 at refl)
      (kept (n + 1) flat (λ i q here. let number : n + 1 + i ≡ n + suc i = omega arith in ap (mark_at inside) number ∙ are (suc i) q here))
      ∙ by_test (is_inside_whole cut at)
    where
      by_test : (b : Bool)
          → cond b [] (flat_instance at ∷ []) ++ map flat_instance (filter (λ (q : FlatPlace). not (is_inside_whole cut q)) flat)
          ≡ map flat_instance (cond (not b) (at ∷ filter (λ (q : FlatPlace). not (is_inside_whole cut q)) flat) (filter (λ (q : FlatPlace). not (is_inside_whole cut q)) flat))
      by_test true = refl
      by_test false = refl

behind_first : {X : Type 0} (xs : List X) (i : ℕ) (x : X) → At (drop 1 xs) i x → At xs (1 + i) x
behind_first [] i x e = e
behind_first (y ∷ xs) i x e = let number : suc i ≡ 1 + i = omega arith in subst (λ (n : ℕ). At (y ∷ xs) n x) number e

pub instances_are : (cut : Cut) (marks : Marks) (instances : List FlatInstance) → AreMarks cut marks → instances ≡ flat_instances cut.top
    → instances_left marks.inside.items 1 instances ≡ checked_instances cut
instances_are cut marks instances are all =
    ap (instances_left marks.inside.items 1) all
    ∙ kept cut marks.inside.items 1 (drop 1 (all_places cut.top)) (λ i at here.
    let there = behind_first (all_places cut.top) i at here in
    are.inside (1 + i) at (subst (λ (n : ℕ). 1 + i < n) (sym are.count) (slice_get_within (all_places cut.top) (1 + i) at there)) there)
