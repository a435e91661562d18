-- The parts of the circuit whose gates are all at one input are the parts of all devices.
use Rattle.std.proofs.Common.{◌≡◌, ℕ, zero, suc, ◌+◌, ◌<◌, Bool, false, List, [], ◌∷◌, get_or, length, map, arith, ap, refl, subst, sym, ◌∙◌, inl, inr}
use Rattle.std.proofs.lemmas.Bool.{false≢true}
use Rattle.std.proofs.lemmas.List.{length-append, length-map}
use Rattle.std.proofs.lemmas.List.Elements.{All-map, All-nil}
use Rattle.std.proofs.lemmas.Option.{none-some, same_Some}
use Rattle.channel_parts.specs.PartLists.{AreParts, IsBefore, IsPartOf, least_of}
use Rattle.channel_parts.specs.declared.part.Part.{Part}
use Rattle.channel_parts.specs.declared.part.Parts.{Parts}
use Rattle.channel_parts.specs.LinkedParts.{AreLinkedParts, IsLinkedPart, channel_circuit, channel_device, channel_kind, channel_net, channel_nets, gate_net}
use Rattle.channel_parts.specs.Classes.{IsLinked, IsLinkedDevice, itself, onward}
use Rattle.vrt_model.proofs.Filtered.{among_devices, device_among}
use Rattle.vrt_model.proofs.Lists.{at_map, map_among, map_at}
use Rattle.vrt_model.proofs.Members.{among_map}
use Rattle.vrt_model.specs.Circuits.{IsDevice, IsFlat, IsHold}
use Rattle.vrt_model.specs.Known.{HasFixedBit, IsChannel, IsInPart, IsKnown, IsPlain, IsTogether, fixed, is_plain_kind, itself as alone, onward as further, settled}
use Rattle.vrt_model.specs.Lists.{At, Among}
use Rattle.vrt_model.specs.Path.{Joins}
use Rattle.vrt_model.specs.declared.circuit.Circuit.{Circuit}
use Rattle.vrt_model.specs.declared.circuit.Device.{Device}
use Rattle.vrt_model.specs.declared.circuit.FlatNet.{FlatNet}
use Rattle.vrt_model.specs.declared.circuit.NetKind.{NetKind}
use Rattle.vrt_model.specs.declared.circuit.NetKind.TheVariants.{Supply, Clock, Input, Plain}
use Rattle.vrt_model.specs.declared.rules.Phase.{Phase}

-- ---- plain nets

input_not_plain : Input ≡ Plain → ⊥
input_not_plain e = false≢true (ap is_plain_kind e)

kind_plain : (kind : NetKind) → channel_kind kind ≡ Plain → kind ≡ Plain
kind_plain (Supply value) e = absurd (input_not_plain e)
kind_plain (Clock clock) e = absurd (input_not_plain e)
kind_plain Input e = absurd (input_not_plain e)
kind_plain Plain e = refl

-- what is plain among the nets of the circuit of channels was plain
plain_before : (nets : List FlatNet) (n : ℕ) (net : FlatNet) → At (channel_nets nets) n net → net.kind ≡ Plain → (old : FlatNet) × At nets n old × (old.kind ≡ Plain)
plain_before [] zero net e k = absurd (input_not_plain (ap (λ (x : FlatNet). x.kind) (same_Some gate_net net e) ∙ k))
plain_before [] (suc n) net e k = absurd (none-some net e)
plain_before (x ∷ nets) zero net e k = (x, refl, kind_plain x.kind (ap (λ (y : FlatNet). y.kind) (same_Some (channel_net x) net e) ∙ k))
plain_before (x ∷ nets) (suc n) net e k = plain_before nets n net e k

-- and what was plain is
plain_after : (nets : List FlatNet) (n : ℕ) (old : FlatNet) → At nets n old → old.kind ≡ Plain → (net : FlatNet) × At (channel_nets nets) n net × (net.kind ≡ Plain)
plain_after [] n old e k = absurd (none-some old e)
plain_after (x ∷ nets) zero old e k = (channel_net x, refl, ap (λ (y : FlatNet). channel_kind y.kind) (same_Some x old e) ∙ ap channel_kind k)
plain_after (x ∷ nets) (suc n) old e k = plain_after nets n old e k

plain_from : (c : Circuit) (n : ℕ) → IsPlain (channel_circuit c) n → IsPlain c n
plain_from c n p = plain_before c.nets n p.0 p.1 p.2

plain_to : (c : Circuit) (n : ℕ) → IsPlain c n → IsPlain (channel_circuit c) n
plain_to c n p = plain_after c.nets n p.0 p.1 p.2

-- ---- the net of all gates

gate_at : (nets : List FlatNet) → At (channel_nets nets) (length nets) gate_net
gate_at [] = refl
gate_at (x ∷ nets) = gate_at nets

-- nothing is known of an input
input_unknown : (c : Circuit) (phase : Phase) (n : ℕ) (v : Bool) (net : FlatNet) → At c.nets n net → net.kind ≡ Input → IsKnown c phase n v → ⊥
input_unknown c phase n v net e k (fixed f) =
    subst (λ (kind : NetKind). HasFixedBit phase kind v) (ap (λ (x : FlatNet). x.kind) (same_Some f.0 net (sym f.1 ∙ e)) ∙ k) f.2
input_unknown c phase n v net e k (settled inside reading held driven shut on is gates shows) =
    let plain : IsPlain c n = (shut.plain n on).0 in
    input_not_plain (sym k ∙ ap (λ (x : FlatNet). x.kind) (same_Some net plain.0 (sym e ∙ plain.1)) ∙ plain.2)

gate_unknown : (c : Circuit) (phase : Phase) (v : Bool) → IsKnown (channel_circuit c) phase (length c.nets) v → ⊥
gate_unknown c phase v k = input_unknown (channel_circuit c) phase (length c.nets) v gate_net (gate_at c.nets) refl k

-- ---- channels

-- each device is a channel there
channel_to : (c : Circuit) (phase : Phase) (d : Device) → Among c.devices d → IsChannel (channel_circuit c) phase false (channel_device (length c.nets) d)
channel_to c phase d m = (
  among_devices false (channel_circuit c) (channel_device (length c.nets) d) (map_among (channel_device (length c.nets)) c.devices d m) refl,
  λ v k. absurd (gate_unknown c phase v k),
)

-- a channel there is that of a device, with the same ends
channel_from : (c : Circuit) (phase : Phase) (d : Device) → IsChannel (channel_circuit c) phase false d → (old : Device) × Among c.devices old × (channel_device (length c.nets) old ≡ d)
channel_from c phase d channel = among_map (channel_device (length c.nets)) c.devices d (device_among false (channel_circuit c) d channel.0).0

-- ---- parts

pub linked_from : (c : Circuit) (phase : Phase) (n m : ℕ) → IsTogether (channel_circuit c) phase false n m → IsLinked c n m
linked_from c phase n m (alone p) = itself (plain_from c n p)
linked_from c phase n m (further {l = l} d t channel j p) =
    let old = channel_from c phase d channel in
    onward old.0 (linked_from c phase n l t) old.1 (subst (λ (x : Device). Joins x l m) (sym old.2) j) (plain_from c m p)

pub linked_to : (c : Circuit) (phase : Phase) (n m : ℕ) → IsLinked c n m → IsTogether (channel_circuit c) phase false n m
linked_to c phase n m (itself p) = alone (plain_to c n p)
linked_to c phase n m (onward {l = l} d t a j p) =
    further (channel_device (length c.nets) d) (linked_to c phase n l t) (channel_to c phase d a) j (plain_to c m p)

-- the devices of a part
device_from : (c : Circuit) (phase : Phase) (n k : ℕ) → (d : Device) × At (channel_circuit c).devices k d × IsInPart (channel_circuit c) phase false n d
    → (d : Device) × At c.devices k d × IsLinkedDevice c n d
device_from c phase n k h =
    let old = at_map (channel_device (length c.nets)) c.devices k h.0 h.1 in
    let inside = h.2 in (
      old.0,
      old.1,
      (inside.0, inside.1, linked_from c phase n inside.0 inside.2, subst (λ (x : Device). Joins x inside.0 inside.1) (sym old.2) inside.4),
    )

device_to : (c : Circuit) (phase : Phase) (n k : ℕ) → (d : Device) × At c.devices k d × IsLinkedDevice c n d
    → (d : Device) × At (channel_circuit c).devices k d × IsInPart (channel_circuit c) phase false n d
device_to c phase n k h =
    let inside = h.2 in (
      channel_device (length c.nets) h.0,
      map_at (channel_device (length c.nets)) c.devices k h.0 h.1,
      (inside.0, inside.1, linked_to c phase n inside.0 inside.2, channel_to c phase h.0 (k, h.1), inside.3),
    )

-- ---- the list of parts

part_linked : (c : Circuit) (phase : Phase) (part : Part) → IsPartOf (channel_circuit c) phase false (λ n. 0) part → IsLinkedPart c part
part_linked c phase part is = record {
  first = is.first;
  nets = λ n. (λ m. linked_from c phase (least_of part) n ((is.nets n).0 m), λ l. (is.nets n).1 (linked_to c phase (least_of part) n l));
  net_order = is.net_order;
  devices = λ k. (λ m. device_from c phase (least_of part) k ((is.devices k).0 m), λ l. (is.devices k).1 (device_to c phase (least_of part) k l));
}

part_rank : (c : Circuit) (phase : Phase) (part : Part) → IsPartOf (channel_circuit c) phase false (λ n. 0) part → part.rank ≡ 0
part_rank c phase part is = is.ranked (least_of part) (0, is.first)

before_least : (p q : Part) → p.rank ≡ 0 → q.rank ≡ 0 → IsBefore p q → least_of p < least_of q
before_least p q e f (inl lt) = absurd (omega (arith, e, f, lt))
before_least p q e f (inr both) = both.1

pub parts_linked : (c : Circuit) (phase : Phase) (parts : Parts) → AreParts (channel_circuit c) phase false (λ n. 0) parts → AreLinkedParts c parts.list
parts_linked c phase parts are = record {
  each = λ part m. part_linked c phase part (are.each part m);
  all = λ n p. are.all n (plain_to c n p);
  sorted = λ i j p q a b lt. before_least p q (part_rank c phase p (are.each p (i, a))) (part_rank c phase q (are.each q (j, b))) (are.sorted i j p q a b lt);
}

-- ---- the circuit of channels is well formed

channel_count : (nets : List FlatNet) → length (channel_nets nets) ≡ length nets + 1
channel_count nets = length-append (map channel_net nets) (gate_net ∷ []) ∙ ap (λ (k : ℕ). k + 1) (length-map nets channel_net)

device_flat : (c : Circuit) (d : Device) → IsDevice c d → IsDevice (channel_circuit c) (channel_device (length c.nets) d)
device_flat c d is =
    let size : length (channel_nets c.nets) ≡ length c.nets + 1 = channel_count c.nets in
    let left = is.left in
    let right = is.right in
    record {
      gate = omega (arith, size);
      left = omega (arith, size, left);
      right = omega (arith, size, right);
      level = is.level;
    }

pub channel_flat : (c : Circuit) → IsFlat c → IsFlat (channel_circuit c)
channel_flat c flat = record {
  wholes = refl;
  devices = All-map (IsDevice (channel_circuit c)) (channel_device (length c.nets)) c.devices (λ i d lt. device_flat c (get_or c.devices i d) (flat.devices i d lt));
  holds = All-nil (IsHold (channel_circuit c));
}
