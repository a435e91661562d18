-- Two choices that are the same at each instance leave the same instances whole, and the same things out.
use Rattle.std.proofs.Common.{◌≡◌, ℕ, zero, suc, ◌+◌, ◌<◌, ◌&&◌, ◌||◌, Bool, true, not, List, [], ◌∷◌, length, map, Some, arith, subst, sym, refl, ◌∙◌, ap, ap₂}
use Rattle.std.specs.Prelude.{drop, filter, flat_map, option_map, slice_get, unwrap_or}
use Rattle.std.specs.List.{enumerate_from, list_any}
use Rattle.std.proofs.lemmas.Option.{none-some, same_Some, slice_get_within}
use mathlib.Core.Path.{fun_ext}
use Rattle.vrt_model.proofs.Lists.{at_map, filter_among_same}
use Rattle.vrt_model.proofs.Members.{among_later}
use Rattle.vrt_model.specs.CheckedParts.{checked_devices, checked_holds, checked_instances, moved_end}
use Rattle.vrt_model.specs.Comparison.{cell_at}
use Rattle.vrt_model.specs.Cut.{Cut, NumberedPlace, count_below, is_inside, is_inside_whole, is_left_out, is_whole, moved_instance, numbered_places, shown, whole_places}
use Rattle.vrt_model.specs.FlatCircuit.{flat_device, flat_holds, flat_instance}
use Rattle.vrt_model.specs.Lists.{At, Among}
use Rattle.vrt_model.specs.Unrolled.{Place, Top, all_places}
use Rattle.vrt_model.specs.WholeInstances.{all_outputs, outputs_of_place}
use Rattle.vrt_model.specs.declared.blif.Blif.{Blif}
use Rattle.vrt_model.specs.declared.circuit.Device.{Device}
use Rattle.vrt_model.specs.declared.circuit.Hold.{Hold}
use Rattle.vrt_model.specs.declared.circuit.HoldEnd.{HoldEnd}
use Rattle.vrt_model.specs.declared.circuit.HoldEnd.TheVariants.{Own, Latch}
use Rattle.vrt_model.specs.declared.whole.CellFacts.{CellFacts}

-- ---- numbers of places

pub at_enumerated : {X : Type 0} (n : ℕ) (xs : List X) (i : ℕ) (q : ℕ × X) → At (enumerate_from n xs) i q → (q.0 ≡ n + i) × At xs i q.1
at_enumerated n [] i q e = absurd (none-some q e)
at_enumerated {X} n (x ∷ xs) zero q e =
    let same = same_Some (n, x) q e in
    let first : n ≡ q.0 = ap (λ (z : ℕ × X). z.0) same in
    (omega (arith, first), ap (λ (z : ℕ × X). Some z.1) same)
at_enumerated n (x ∷ xs) (suc i) q e = let rest = at_enumerated (n + 1) xs i q e in let is = rest.0 in (omega (arith, is), rest.1)

abbrev pub numbered : ℕ × Place → NumberedPlace
numbered q = record { number = q.0; at = q.1 }

-- a numbered place stands at its number
pub numbered_at : (t : Top) (i : ℕ) (p : NumberedPlace) → At (numbered_places t) i p → (p.number ≡ i) × At (all_places t) i p.at
numbered_at t i p here =
    let from = at_map numbered (enumerate_from 0 (all_places t)) i p here in
    let there = at_enumerated 0 (all_places t) i from.0 from.1 in
    let is = there.0 in
    let number : from.0.0 ≡ i = omega (arith, is) in
    (sym (ap (λ (q : NumberedPlace). q.number) from.2) ∙ number, subst (λ (q : NumberedPlace). At (all_places t) i q.at) from.2 there.1)

pub any_within : {X : Type 0} (p q : X → Bool) (xs : List X) → ((x : X) → Among xs x → p x ≡ q x) → list_any p xs ≡ list_any q xs
any_within p q [] h = refl
any_within p q (x ∷ xs) h = ap₂ (λ (a b : Bool). a || b) (h x (0, refl)) (any_within p q xs (λ y m. h y (among_later x xs y m)))

-- ---- the same choice at each instance

module _ (t : Top) (one other : ℕ → Bool) (same : (i : ℕ) → suc i < length (all_places t) → one i ≡ other i) where
  abbrev pub left : Cut
  left = record { top = t; choice = one }

  abbrev pub right : Cut
  right = record { top = t; choice = other }

  whole_by_number : (n : ℕ) → n < length (all_places t) → is_whole one n ≡ is_whole other n
  whole_by_number zero lt = refl
  whole_by_number (suc i) lt = same i lt

  whole_same : (p : NumberedPlace) → Among (numbered_places t) p → is_whole one p.number ≡ is_whole other p.number
  whole_same p m =
      let h = numbered_at t m.0 p m.1 in
      whole_by_number p.number (subst (λ (n : ℕ). n < length (all_places t)) (sym h.0) (slice_get_within (all_places t) m.0 p.at h.1))

  pub inside_same : is_inside_whole left ≡ is_inside_whole right
  inside_same =
      fun_ext (λ at. any_within (λ (o : NumberedPlace). is_whole one o.number && is_inside at o.at) (λ (o : NumberedPlace). is_whole other o.number && is_inside at o.at) (numbered_places t)
      (λ o m. ap (λ (b : Bool). b && is_inside at o.at) (whole_same o m)))

  pub whole_places_same : whole_places left ≡ whole_places right
  whole_places_same =
      filter_among_same (λ (p : NumberedPlace). is_whole one p.number) (λ (p : NumberedPlace). is_whole other p.number) (numbered_places t) whole_same

  shown_same : shown left ≡ shown right
  shown_same =
      filter_among_same (λ p. not (is_left_out left p)) (λ p. not (is_left_out right p)) (numbered_places t)
      (λ p m. ap not (ap₂ (λ (a b : Bool). a || b) (whole_same p m) (ap (λ (f : Place → Bool). f p.at) inside_same)))

  moved_same : moved_instance left ≡ moved_instance right
  moved_same =
      ap (λ (f : Place → Bool). λ (i : ℕ). count_below (λ j. unwrap_or (option_map (λ (at : Place). not (f at)) (slice_get (all_places t) (suc j))) true) i) inside_same

  end_same : (e : HoldEnd) → moved_end left e ≡ moved_end right e
  end_same (Own n) = refl
  end_same (Latch instance element) = ap (λ (f : ℕ → ℕ). Latch (option_map f instance) element) moved_same

  abbrev devices_of : List NumberedPlace → List Device
  devices_of places = flat_map (λ (p : NumberedPlace). map (flat_device t p.at) (cell_at t.design p.at.cell).devices) places

  pub devices_same : checked_devices left ≡ checked_devices right
  devices_same = ap devices_of shown_same

  pub holds_same : checked_holds left ≡ checked_holds right
  holds_same = ap (λ (f : HoldEnd → HoldEnd). map (λ (h : Hold). let one : Hold = record h { end = f h.end } in one) (flat_holds t)) (fun_ext end_same)

  pub instances_same : checked_instances left ≡ checked_instances right
  instances_same = ap (λ (f : Place → Bool). map flat_instance (filter (λ (at : Place). not (f at)) (drop 1 (all_places t)))) inside_same

  pub outputs_same : (blif : Blif) (facts : List CellFacts) → all_outputs left blif facts ≡ all_outputs right blif facts
  outputs_same blif facts = ap (flat_map (outputs_of_place t blif facts)) whole_places_same
