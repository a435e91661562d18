-- A part of the bare or of the kept circuit is whole: it has all that channels join to its nets.
use Rattle.std.proofs.Common.{◌≡◌, ℕ, ◌<◌, ◌⊎◌, Bool, List, length, Some, arith, ap, refl, sym, subst, ◌∙◌, inl, inr}
use Rattle.std.specs.Prelude.{option_map, slice_get, slice_index_or}
use Rattle.std.proofs.lemmas.Bool.{cases_lt}
use Rattle.std.proofs.lemmas.Option.{same_Some, slice_get-get_or, slice_get-map, slice_get_within}
use Rattle.channel_parts.specs.PartLists.{IsPartOf, IsRising, device_numbers, least_of, net_numbers}
use Rattle.channel_parts.specs.declared.part.Part.{Part}
use Rattle.circuit_faults.specs.Ordered.{IsWholePart}
use Rattle.circuit_faults.specs.Scans.{IsInside}
use Rattle.known_nets.proofs.NetKinds.{given_or_plain}
use Rattle.path_fixpoint.specs.Parts.{IsGiven, IsPart, IsPlace, part_devices}
use Rattle.vrt_model.proofs.Filtered.{device_among}
use Rattle.vrt_model.proofs.Laws.{turned}
use Rattle.vrt_model.proofs.Lists.{among_filter_map, at_map, filter_map_among}
use Rattle.vrt_model.proofs.Members.{all_among, among_map}
use Rattle.vrt_model.proofs.Ranked.{together_plain}
use Rattle.vrt_model.specs.Circuits.{IsDevice}
use Rattle.vrt_model.specs.Known.{IsChannel, IsInPart, IsPlain, IsTogether, onward}
use Rattle.vrt_model.specs.Lists.{At, Among}
use Rattle.vrt_model.specs.Networks.{HasRanges}
use Rattle.vrt_model.specs.Path.{Joins}
use Rattle.vrt_model.specs.declared.circuit.Circuit.{Circuit}
use Rattle.vrt_model.specs.declared.circuit.Device.{Device}
use Rattle.vrt_model.specs.declared.ids.Dev.{Dev}
use Rattle.vrt_model.specs.declared.ids.Net.{Net}
use Rattle.vrt_model.specs.declared.rules.Phase.{Phase}

-- ---- numbers in lists

pub place_number : (part : Part) (i n : ℕ) → IsPlace part i n → At (net_numbers part.nets) i n
place_number part i n p = slice_get-map (λ (net : Net). net.0) part.nets i ∙ ap (option_map (λ (net : Net). net.0)) p.1 ∙ ap Some p.2

pub number_place : (part : Part) (i n : ℕ) → At (net_numbers part.nets) i n → IsPlace part i n
number_place part i n e = (let from = at_map (λ (net : Net). net.0) part.nets i n e in (from.0, from.1, from.2))

pub inside_number : (part : Part) (n : ℕ) → IsInside part n → Among (net_numbers part.nets) n
inside_number part n i = (i.0, place_number part i.0 n i.1)

pub number_inside : (part : Part) (n : ℕ) → Among (net_numbers part.nets) n → IsInside part n
number_inside part n m = let net = among_map (λ (x : Net). x.0) part.nets n m in (net.1.0, (net.0, net.1.1, net.2))

net_among : (nets : List Net) (net : Net) (i : ℕ) (x : Net) → At nets i x → x.0 ≡ net.0 → Among nets net
net_among nets net i x at e =
    let same : x ≡ net = ap (λ (k : ℕ). let m : Net = record { 0 = k } in m) e in
    (i, subst (λ (y : Net). At nets i y) same at)

-- the numbers of a rising list differ from place to place
pub rising_once : (xs : List ℕ) (i j n : ℕ) → IsRising xs → At xs i n → At xs j n → i ≡ j
rising_once xs i j n rising a b =
    elim (cases_lt i j) [
      | inl lt ↦ absurd (let less : n < n = rising i j n n a b lt in omega (arith, less))
      | inr ge ↦ elim (cases_lt j i) [
        | inl lt ↦ absurd (let less : n < n = rising j i n n b a lt in omega (arith, less))
        | inr le ↦ omega (arith, ge, le)
      ]
    ]

-- ---- one part

module _ (c : Circuit) (phase : Phase) (which : Bool) (rank : ℕ → ℕ) (ranges : HasRanges c) (part : Part) (of : IsPartOf c phase which rank part) where
  pub together : (n : ℕ) → IsInside part n → IsTogether c phase which (least_of part) n
  together n i = (of.nets n).0 (inside_number part n i)

  pub inside : (n : ℕ) → IsTogether c phase which (least_of part) n → IsInside part n
  inside n t = number_inside part n ((of.nets n).1 t)

  pub plain : (n : ℕ) → IsInside part n → IsPlain c n
  plain n i = together_plain c phase which (least_of part) n (together n i)

  -- a device of the part, by its number
  pub device_in : (d : Device) → Among (part_devices c part) d → IsInPart c phase which (least_of part) d
  device_in d m =
      let from = among_filter_map (λ (x : Dev). slice_get c.devices x.0) part.devices d m in
      let number : At (device_numbers part.devices) from.1.0 from.0.0 =
      slice_get-map (λ (x : Dev). x.0) part.devices from.1.0 ∙ ap (option_map (λ (x : Dev). x.0)) from.1.1 in
      let there = (of.devices from.0.0).0 (from.1.0, number) in
      subst (IsInPart c phase which (least_of part)) (same_Some there.0 d (sym there.1 ∙ from.2)) there.2

  in_devices : (d : Device) (k : ℕ) → At c.devices k d → IsInPart c phase which (least_of part) d → Among (part_devices c part) d
  in_devices d k at i =
      let number = (of.devices k).1 (d, at, i) in
      let from = among_map (λ (x : Dev). x.0) part.devices k number in
      filter_map_among (λ (x : Dev). slice_get c.devices x.0) part.devices from.1.0 from.0 d from.1.1 (ap (slice_get c.devices) from.2 ∙ at)

  -- an end of one of its channels is inside or has a given value
  end_of_channel : (d : Device) (m n : ℕ) → IsChannel c phase which d → Joins d m n → IsInside part n → IsInside part m ⊎ IsGiven c m
  end_of_channel d m n ch j i =
      let is = all_among (IsDevice c) c.devices d ranges.devices (device_among which c d ch.0).0 in
      let lt : m < length c.nets = elim j [ inl e ↦ subst (λ (x : ℕ). x < length c.nets) e.0 is.left | inr e ↦ subst (λ (x : ℕ). x < length c.nets) e.1 is.right ] in
      elim (given_or_plain c m lt) [ inl g ↦ inr g | inr p ↦ inl (inside m (onward d (together n i) ch (turned d m n j) p)) ]

  inside_among : (net : Net) → IsInside part net.0 → Among part.nets net
  inside_among net i = net_among part.nets net i.0 i.1.0 i.1.1 i.1.2

  -- each net at the channel of a device of the part is inside or has a given value
  ends : (d : Device) (m n : ℕ) → Among (part_devices c part) d → Joins d m n → IsInside part m ⊎ IsGiven c m
  ends d m n a j =
      let i = device_in d a in
      let first : IsInside part i.0 = inside i.0 i.2 in
      let other : IsInside part i.1 ⊎ IsGiven c i.1 = end_of_channel d i.1 i.0 i.3 (turned d i.0 i.1 i.4) first in
      by_end i.0 i.1 i.4 first other
    where
      by_end : (x y : ℕ) → Joins d x y → IsInside part x → (IsInside part y ⊎ IsGiven c y) → IsInside part m ⊎ IsGiven c m
      by_end x y joins first other =
          let at_first : (x ≡ m) → IsInside part m ⊎ IsGiven c m = λ e. inl (subst (IsInside part) e first) in
          let at_other : (y ≡ m) → IsInside part m ⊎ IsGiven c m = λ e. subst (λ (k : ℕ). IsInside part k ⊎ IsGiven c k) e other in
          elim joins [
            | inl p ↦ elim j [ inl q ↦ at_first (sym p.0 ∙ q.0) | inr q ↦ at_other (sym p.1 ∙ q.1) ]
            | inr p ↦ elim j [ inl q ↦ at_other (sym p.0 ∙ q.0) | inr q ↦ at_first (sym p.1 ∙ q.1) ]
          ]

  to_among : (net : Net) → (IsInside part net.0 ⊎ IsGiven c net.0) → Among part.nets net ⊎ IsGiven c net.0
  to_among net e = elim e [ inl i ↦ inl (inside_among net i) | inr g ↦ inr g ]

  pub is_part : IsPart c part
  is_part = record {
    nets = λ k d lt.
        let net : Net = slice_index_or part.nets k d in
        let there = plain net.0 (k, (net, slice_get-get_or part.nets k d lt, refl)) in
        slice_get_within c.nets net.0 there.0 there.1;
    once = λ i j n p q. rising_once (net_numbers part.nets) i j n of.net_order (place_number part i n p) (place_number part j n q);
    devices = λ k d lt.
        let device : Dev = slice_index_or part.devices k d in
        let number : At (device_numbers part.devices) k device.0 =
        slice_get-map (λ (x : Dev). x.0) part.devices k ∙ ap (option_map (λ (x : Dev). x.0)) (slice_get-get_or part.devices k d lt) in
        let there = (of.devices device.0).0 (k, number) in
        slice_get_within c.devices device.0 there.0 there.1;
    left = λ d m. to_among d.left (ends d d.left.0 d.right.0 m (inl (refl, refl)));
    right = λ d m. to_among d.right (ends d d.right.0 d.left.0 m (inr (refl, refl)));
  }

  pub whole_part : IsWholePart which c phase part
  whole_part = record {
    is = is_part;
    plain = plain;
    closed = λ d m n ch j i p. inside m (onward d (together n i) ch (turned d m n j) p);
    channels = λ d m n ch j i. (let there = (device_among which c d ch.0).0 in in_devices d there.0 there.1 (n, m, together n i, ch, turned d m n j));
    devices = λ d m. (device_in d m).3;
  }
