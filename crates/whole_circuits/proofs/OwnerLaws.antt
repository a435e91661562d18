-- How many devices stand before a place.
use Rattle.std.proofs.Common.{◌≡◌, ℕ, zero, suc, ◌+◌, ◌<◌, ◌≤◌, ◌⊎◌, ◌++◌, List, length, take, drop, arith, ap, subst, sym, ◌∙◌, inl, inr, length-append}
use Rattle.std.specs.Prelude.{min, replicate}
use Rattle.std.specs.List.{slice_index}
use Rattle.std.proofs.lemmas.Grind.{flat_map-append}
use Rattle.std.proofs.lemmas.List.{length-drop, length-take, length-take-le, take-append-drop}
use Rattle.std.proofs.lemmas.Option.{none-some, same_Some, slice_get-get_or, slice_get_within}
use Rattle.checked_chain.proofs.ChoiceLaws.{numbered_at}
use Rattle.whole_circuits.specs.Shown.{card_count, device_places, devices_before, own_places}
use Rattle.vrt_model.proofs.Lists.{at_back, at_either, at_front}
use Rattle.vrt_model.proofs.Members.{among_flat_map}
use Rattle.vrt_model.specs.Cut.{NumberedPlace, numbered_places}
use Rattle.vrt_model.specs.Lists.{Among, At}
use Rattle.vrt_model.specs.Unrolled.{Top}

-- an item of a list of equal ones
same_item : (k n i x : ℕ) → At (replicate k n) i x → x ≡ n
same_item zero n i x e = absurd (none-some x e)
same_item (suc k) n zero x e = sym (same_Some n x e)
same_item (suc k) n (suc i) x e = same_item k n i x e

module _ (t : Top) (e : ℕ) where
  -- the places before a number, and the others
  abbrev early : List NumberedPlace
  early = take e (numbered_places t)

  abbrev late : List NumberedPlace
  late = drop e (numbered_places t)

  parted : early ++ late ≡ numbered_places t
  parted = take-append-drop e (numbered_places t)

  number_of : (k : ℕ) (p : NumberedPlace) → At (early ++ late) k p → p.number ≡ k
  number_of k p here = (numbered_at t k p (subst (λ (ps : List NumberedPlace). At ps k p) parted here)).0

  pub is_early : (p : NumberedPlace) → Among early p → p.number < e
  is_early p m =
      let low = slice_get_within early m.0 p m.1 in
      let long = length-take e (numbered_places t) in
      let short = few e (length (numbered_places t)) in
      let is = number_of m.0 p (at_front early late m.0 p m.1) in
      omega (arith, low, long, short, is)
    where
      few : (a b : ℕ) → min a b ≤ a
      few a b = grind arith

  pub is_late : (p : NumberedPlace) → Among late p → e ≤ p.number
  is_late p m =
      let low = slice_get_within late m.0 p m.1 in
      let left = length-drop e (numbered_places t) in
      let far : e ≤ length (numbered_places t) = omega (arith, low, left) in
      let long = length-take-le e (numbered_places t) far in
      let is = number_of (length early + m.0) p (at_back early late m.0 p m.1) in
      omega (arith, long, is)

  pub owners_parted : own_places t early ++ own_places t late ≡ device_places t
  owners_parted = sym (flat_map-append (λ (p : NumberedPlace). replicate (card_count t.design p.at.cell) p.number) early late) ∙ ap (own_places t) parted

  owner_in : (ps : List NumberedPlace) (o : ℕ) → Among (own_places t ps) o → (p : NumberedPlace) × Among ps p × (o ≡ p.number)
  owner_in ps o m =
      let from = among_flat_map (λ (p : NumberedPlace). replicate (card_count t.design p.at.cell) p.number) ps o m in
      (from.0, from.1, same_item (card_count t.design from.0.at.cell) from.0.number from.2.0 o from.2.1)

  -- a device stands at a place before the number exactly where it is among the first ones
  pub owner_is : (k o : ℕ) → At (device_places t) k o → ((o < e) × (k < devices_before t e)) ⊎ ((e ≤ o) × (devices_before t e ≤ k))
  owner_is k o here =
      elim (at_either (own_places t early) (own_places t late) k o (subst (λ (os : List ℕ). At os k o) (sym owners_parted) here)) [
        | inl there ↦ (
            let p = owner_in early o (k, there) in
            let lt = is_early p.0 p.1 in
            let is = p.2 in
            inl (omega (arith, lt, is), slice_get_within (own_places t early) k o there))
        | inr there ↦ (
            let p = owner_in late o (there.0, there.2) in
            let le = is_late p.0 p.1 in
            let is = p.2 in
            let far = there.1 in
            inr (omega (arith, le, is), omega (arith, far)))
      ]

  pub no_more : devices_before t e ≤ length (device_places t)
  no_more = let sum = length-append (own_places t early) (own_places t late) in let all = ap (λ (os : List ℕ). length os) owners_parted in omega (arith, sum, all)

  -- what a look at one place tells
  item : (places : List ℕ) (k : ℕ) → k < length places → At places k (slice_index places k)
  item places k lt = slice_get-get_or places k 0 lt

  pub below : (places : List ℕ) (k : ℕ) → places ≡ device_places t → k < length places → slice_index places k < e → k + 1 ≤ devices_before t e
  below places k is lt less =
      elim (owner_is k (slice_index places k) (subst (λ (os : List ℕ). At os k (slice_index places k)) is (item places k lt))) [
        | inl found ↦ (let low = found.1 in omega (arith, low))
        | inr found ↦ absurd (let far = found.0 in let no : ⊥ = omega (arith, far, less) in no)
      ]

  pub above : (places : List ℕ) (k : ℕ) → places ≡ device_places t → k < length places → e ≤ slice_index places k → devices_before t e ≤ k
  above places k is lt more =
      elim (owner_is k (slice_index places k) (subst (λ (os : List ℕ). At os k (slice_index places k)) is (item places k lt))) [
        | inl found ↦ absurd (let low = found.0 in let no : ⊥ = omega (arith, low, more) in no)
        | inr found ↦ found.1
      ]
