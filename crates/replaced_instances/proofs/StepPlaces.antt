-- The places in an instance that comes to be whole, and all others: their devices go, and no others do.
use Rattle.std.proofs.Common.{◌≡◌, ◌⊎◌, ◌+◌, ◌++◌, ◌∷◌, ◌-◌, ◌&&◌, [], ℕ, zero, suc, not, List, true, map, length, refl, ap, sym, ◌∙◌, subst, arith, inl, inr, append_assoc, length-append}
use Rattle.std.specs.Prelude.{drop, nat_le, nat_lt}
use Rattle.std.proofs.lemmas.Bool.{and_from, and_parts, cases_Bool, false≢true, le-leb, lt-ltb, ltb-true, or_cases, or_left, or_right}
use Rattle.std.proofs.lemmas.Bool.Decides.{nat_tests}
use Rattle.std.proofs.lemmas.Option.{none-some}
use Rattle.checked_chain.proofs.ChoiceLaws.{numbered_at}
use Rattle.checked_chain.proofs.DriveLaws.{whole_or_last}
use Rattle.placed_cells.proofs.PathLaws.{leads, path_over, step_at}
use Rattle.placed_cells.specs.Splits.{IsSplit, leads_through}
use Rattle.vrt_model.proofs.Filtered.{among_kept, filter_among}
use Rattle.vrt_model.proofs.Lists.{at_either, one_at}
use Rattle.vrt_model.proofs.Members.{among_any, among_flat_map, among_left, among_map, among_right, any_among, flat_map_among}
use Rattle.vrt_model.specs.Checked.{before}
use Rattle.vrt_model.specs.CheckedParts.{checked_devices}
use Rattle.vrt_model.specs.Comparison.{cell_at}
use Rattle.vrt_model.specs.Cut.{Cut, NumberedPlace, is_inside, is_inside_whole, is_left_out, is_whole, numbered_places, shown}
use Rattle.vrt_model.specs.FlatCircuit.{flat_device, same_path}
use Rattle.vrt_model.specs.Inputs.{IsDesign}
use Rattle.vrt_model.specs.Lists.{Among, At}
use Rattle.vrt_model.specs.Unrolled.{Place, Step, Top, all_places, own_nets, places_in}
use Rattle.vrt_model.specs.declared.blif.Blif.{Blif}
use Rattle.vrt_model.specs.declared.circuit.Device.{Device}
use Rattle.vrt_model.specs.declared.design.DeviceCard.{DeviceCard}
use Rattle.vrt_model.specs.declared.whole.CellFacts.{CellFacts}

-- what is inside a place has a path through it
pub inside_leads : (a b : Place) → is_inside a b ≡ true → leads_through a b ≡ true
inside_leads a b e =
    let parts = and_parts (nat_lt (length b.path) (length a.path)) (same_path (drop (length a.path - length b.path) a.path) b.path) e in
    let lt = ltb-true (length b.path) (length a.path) parts.0 in
    and_from (nat_le (length b.path) (length a.path)) (same_path (drop (length a.path - length b.path) a.path) b.path) (le-leb (length b.path) (length a.path) (omega (arith, lt))) parts.1

-- each place in another but that one itself is inside it
pub behind_inside : (t : Top) (p : Place) (depth j : ℕ) (r : Place) → At (places_in t depth p) (suc j) r → is_inside r p ≡ true
behind_inside t p zero j r e = absurd (none-some r e)
behind_inside t p (suc depth) j r e =
    let cell = cell_at t.design p.cell in
    let over = path_over t depth p (p.base + length (own_nets t.design t.rules cell)) cell.instances r (j, e) in
    let step : Step = step_at t p over.0 in
    let count : length r.path ≡ length over.2 + suc (length p.path) = ap (λ (s : List Step). length s) over.3 ∙ length-append over.2 (step ∷ p.path) in
    let through = leads r p (over.2 ++ step ∷ []) (over.3 ∙ sym (append_assoc over.2 (step ∷ []) p.path)) in
    let parts = and_parts (nat_le (length p.path) (length r.path)) (same_path (drop (length r.path - length p.path) r.path) p.path) through in
    and_from (nat_lt (length p.path) (length r.path)) (same_path (drop (length r.path - length p.path) r.path) p.path) (lt-ltb (length p.path) (length r.path) (omega (arith, count))) parts.1

pub first_in : (t : Top) (depth : ℕ) (p : Place) → Among (places_in t depth p) p
first_in t zero p = (0, refl)
first_in t (suc depth) p = (0, refl)

module _ (cut : Cut) (blif : Blif) (facts : List CellFacts) (i : ℕ) (p : NumberedPlace) (here : At (numbered_places cut.top) (suc i) p) (chosen : cut.choice i ≡ true)
    (depth : ℕ) (front back : List Place) (split : IsSplit cut.top (suc i) p.at depth front back) (design : IsDesign cut.top.design) where
  abbrev t : Top
  t = cut.top

  abbrev earlier : Cut
  earlier = before cut i

  abbrev later : Cut
  later = before cut (suc i)

  -- a place in that of the instance, with its number
  abbrev pub IsIn : NumberedPlace → Type 0
  IsIn o = (j : ℕ) × At (places_in cut.top depth p.at) j o.at × (o.number ≡ suc i + j)

  place_at : (o : NumberedPlace) → Among (numbered_places t) o → At (all_places t) o.number o.at
  place_at o m = let h = numbered_at t m.0 o m.1 in subst (λ (n : ℕ). At (all_places t) n o.at) (sym h.0) h.1

  pub which : (o : NumberedPlace) → Among (numbered_places t) o → Among (front ++ back) o.at ⊎ IsIn o
  which o m =
      elim (at_either front (places_in t depth p.at ++ back) o.number o.at (subst (λ (ps : List Place). At ps o.number o.at) split.whole (place_at o m))) [
        | inl early ↦ inl (among_left front back o.at (o.number, early))
        | inr rest ↦ elim (at_either (places_in t depth p.at) back rest.0 o.at rest.2) [
          | inl on ↦ inr (rest.0, on, (let count = split.number_is in let is = rest.1 in omega (arith, count, is)))
          | inr late ↦ inl (among_right front back o.at (late.0, late.2))
        ]
      ]

  pub last_whole : is_whole later.choice p.number ≡ true
  last_whole =
      let low : nat_lt i (suc i) ≡ true = grind (arith, nat_tests) in
      subst (λ (n : ℕ). is_whole later.choice n ≡ true) (sym (numbered_at t (suc i) p here).0) (and_from (cut.choice i) (nat_lt i (suc i)) chosen low)

  -- they are left out
  gone : (o : NumberedPlace) → IsIn o → is_left_out later o ≡ true
  gone o inside = by_place inside.0 inside.1 inside.2
    where
      by_place : (j : ℕ) → At (places_in t depth p.at) j o.at → o.number ≡ suc i + j → is_left_out later o ≡ true
      by_place zero e is =
          let own = (numbered_at t (suc i) p here).0 in
          let same : p.number ≡ o.number = omega (arith, own, is) in
          or_left (is_whole later.choice o.number) (is_inside_whole later o.at) (subst (λ (n : ℕ). is_whole later.choice n ≡ true) same last_whole)
      by_place (suc j) e is =
          or_right (is_whole later.choice o.number) (is_inside_whole later o.at)
          (among_any (λ (w : NumberedPlace). is_whole later.choice w.number && is_inside o.at w.at) (numbered_places t) p (suc i, here)
          (and_from (is_whole later.choice p.number) (is_inside o.at p.at) last_whole (behind_inside t p.at depth j o.at e)))

  -- so what is shown with the instance whole is outside
  pub shown_outside : (o : NumberedPlace) → Among (shown later) o → Among (front ++ back) o.at
  shown_outside o m =
      let h = filter_among (λ x. not (is_left_out later x)) (numbered_places t) o m in
      elim (which o h.0) [
        | inl out ↦ out
        | inr inside ↦ absurd (false≢true (sym (ap not (gone o inside)) ∙ h.1))
      ]

  -- and nothing else goes
  pub gone_inside : (o : NumberedPlace) → Among (shown earlier) o → is_left_out later o ≡ true → Among (places_in t depth p.at) o.at
  gone_inside o m e =
      elim (or_cases (is_whole later.choice o.number) (is_inside_whole later o.at) e) [
        | inl w ↦ elim (whole_or_last cut blif facts i p here chosen o.number w) [
          | inl old ↦ absurd (not_gone (or_left (is_whole earlier.choice o.number) (is_inside_whole earlier o.at) old))
          | inr last ↦ subst (λ (q : NumberedPlace). Among (places_in t depth p.at) q.at) (sym (is_last o kept.0 last)) (first_in t depth p.at)
        ]
        | inr inside ↦ around (any_among (λ (w : NumberedPlace). is_whole later.choice w.number && is_inside o.at w.at) (numbered_places t) inside)
      ]
    where
      kept : Among (numbered_places t) o × (not (is_left_out earlier o) ≡ true)
      kept = filter_among (λ x. not (is_left_out earlier x)) (numbered_places t) o m

      not_gone : is_left_out earlier o ≡ true → ⊥
      not_gone out = false≢true (sym (ap not out) ∙ kept.1)

      is_last : (w : NumberedPlace) → Among (numbered_places t) w → w.number ≡ suc i → w ≡ p
      is_last w on last =
          one_at (numbered_places t) (suc i) w p (subst (λ (n : ℕ). At (numbered_places t) n w) (sym (numbered_at t on.0 w on.1).0 ∙ last) on.1) here

      around : (w : NumberedPlace) × Among (numbered_places t) w × ((is_whole later.choice w.number && is_inside o.at w.at) ≡ true) → Among (places_in t depth p.at) o.at
      around w =
          let both = and_parts (is_whole later.choice w.0.number) (is_inside o.at w.0.at) w.2 in
          elim (whole_or_last cut blif facts i p here chosen w.0.number both.0) [
            | inl old ↦
                absurd (not_gone (or_right (is_whole earlier.choice o.number) (is_inside_whole earlier o.at)
                (among_any (λ (x : NumberedPlace). is_whole earlier.choice x.number && is_inside o.at x.at) (numbered_places t) w.0 w.1 (and_from (is_whole earlier.choice w.0.number) (is_inside o.at w.0.at) old both.1))))
            | inr last ↦
                let through = inside_leads o.at p.at (subst (λ (x : NumberedPlace). is_inside o.at x.at ≡ true) (is_last w.0 w.1 last) both.1) in
                elim (which o kept.0) [
                  | inl out ↦ absurd (false≢true (sym (split.past design o.at out) ∙ through))
                  | inr inside ↦ (inside.0, inside.1)
                ]
          ]

  -- ---- devices

  abbrev cards : NumberedPlace → List Device
  cards q = map (flat_device t q.at) (cell_at t.design q.at.cell).devices

  -- a device of one of these places
  abbrev pub IsDeviceIn : List Place → Device → Type 0
  IsDeviceIn places e = (r : Place) × (card : DeviceCard) × Among places r × Among (cell_at cut.top.design r.cell).devices card × (flat_device cut.top r card ≡ e)

  -- the devices that are there with the instance whole are those of places outside
  pub later_outside : (e : Device) → Among (checked_devices later) e → IsDeviceIn (front ++ back) e
  later_outside e m =
      let from = among_flat_map cards (shown later) e m in
      let card = among_map (flat_device t from.0.at) (cell_at t.design from.0.at.cell).devices e from.2 in
      (from.0.at, card.0, shown_outside from.0 from.1, card.1, card.2)

  -- each device that was there is still, or is one of a place inside
  pub earlier_or_inside : (e : Device) → Among (checked_devices earlier) e → Among (checked_devices later) e ⊎ IsDeviceIn (places_in t depth p.at) e
  earlier_or_inside e m =
      let from = among_flat_map cards (shown earlier) e m in
      elim (cases_Bool (is_left_out later from.0)) [
        | inl out ↦
            let card = among_map (flat_device t from.0.at) (cell_at t.design from.0.at.cell).devices e from.2 in
            inr (from.0.at, card.0, gone_inside from.0 from.1 out, card.1, card.2)
        | inr kept ↦
            let q = filter_among (λ x. not (is_left_out earlier x)) (numbered_places t) from.0 from.1 in
            inl (flat_map_among cards (shown later) from.0 e (among_kept (λ x. not (is_left_out later x)) (numbered_places t) from.0 q.0 (ap not kept)) from.2)
      ]
