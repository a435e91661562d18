-- Labels of nets, joined over the devices that may conduct, are the least nets of the parts.
use Rattle.std.proofs.Common.{◌≡◌, ℕ, ◌<◌, ◌≤◌, Bool, true, List, length, Some, None, Option, slice_index, arith, ap, subst, sym, refl, ◌∙◌, inl, inr}
use Rattle.std.specs.Prelude.{◌&&◌, option_map}
use Rattle.std.proofs.lemmas.Bool.{and_from, and_parts, cases_lt}
use Rattle.std.proofs.lemmas.List.{get_or_past}
use Rattle.std.proofs.lemmas.Option.{slice_get_within}
use Rattle.channel_parts.specs.Labels.{AreOfParts, IsLeastTogether, joins_plain_nets, may_conduct}
use Rattle.known_nets.proofs.NetKinds.{is_plain_is, plain_is}
use Rattle.known_nets.specs.Conduction.{conduction_of, is_plain_at}
use Rattle.known_nets.specs.KnownTables.{IsKnownTable, known_at}
use Rattle.vrt_model.proofs.Filtered.{among_devices, device_among}
use Rattle.vrt_model.proofs.Ranked.{together_plain}
use Rattle.vrt_model.specs.Known.{IsChannel, IsPlain, IsTogether, itself, onward}
use Rattle.vrt_model.specs.Lists.{Among}
use Rattle.vrt_model.specs.Path.{Joins}
use Rattle.vrt_model.specs.Reading.{conducts_at, is_in}
use Rattle.vrt_model.specs.declared.circuit.Circuit.{Circuit}
use Rattle.vrt_model.specs.declared.circuit.Device.{Device}
use Rattle.vrt_model.specs.declared.rules.Phase.{Phase}

-- ---- channels

-- a device that may conduct is a channel
pub may_channel : (c : Circuit) (phase : Phase) (known : List (Option Bool)) (bare : Bool) (d : Device) → IsKnownTable c phase (known_at known) → Among c.devices d → is_in bare d ≡ true
    → may_conduct (conduction_of known d) ≡ true → IsChannel c phase bare d
may_channel c phase known bare d table there here may = (
  among_devices bare c d there here,
  λ v k. sym (ap (λ (o : Option Bool). may_conduct (option_map (conducts_at d.kind) o)) ((table d.gate.0 v).1 k)) ∙ may,
)

-- and a channel may conduct
pub channel_may : (c : Circuit) (phase : Phase) (known : List (Option Bool)) (bare : Bool) (d : Device) → IsKnownTable c phase (known_at known) → IsChannel c phase bare d
    → may_conduct (conduction_of known d) ≡ true
channel_may c phase known bare d table channel = by_entry (known_at known d.gate.0) refl
  where
    by_entry : (o : Option Bool) → known_at known d.gate.0 ≡ o → may_conduct (option_map (conducts_at d.kind) o) ≡ true
    by_entry None e = refl
    by_entry (Some v) e = channel.1 v ((table d.gate.0 v).0 e)

-- ---- parts

pub together_further : (c : Circuit) (phase : Phase) (bare : Bool) (n m l : ℕ) → IsTogether c phase bare n m → IsTogether c phase bare m l → IsTogether c phase bare n l
together_further c phase bare n m l first (itself p) = first
together_further c phase bare n m l first (onward {l = j} d t i join p) = onward d (together_further c phase bare n m j first t) i join p

-- a channel between plain nets joins their labels
channel_joins : (c : Circuit) (phase : Phase) (known : List (Option Bool)) (bare : Bool) (d : Device) (m n : ℕ) → IsKnownTable c phase (known_at known) → IsChannel c phase bare d
    → Joins d m n → IsPlain c m → IsPlain c n → joins_plain_nets c known bare d ≡ true
channel_joins c phase known bare d m n table channel j pm pn =
    and_from (is_in bare d && may_conduct (conduction_of known d)) (is_plain_at c d.left.0 && is_plain_at c d.right.0)
    (and_from (is_in bare d) (may_conduct (conduction_of known d)) (device_among bare c d channel.0).1 (channel_may c phase known bare d table channel))
    (elim j [
      | inl e ↦ and_from (is_plain_at c d.left.0) (is_plain_at c d.right.0) (ap (is_plain_at c) e.0 ∙ is_plain_is c m pm) (ap (is_plain_at c) e.1 ∙ is_plain_is c n pn)
      | inr e ↦ and_from (is_plain_at c d.left.0) (is_plain_at c d.right.0) (ap (is_plain_at c) e.0 ∙ is_plain_is c n pn) (ap (is_plain_at c) e.1 ∙ is_plain_is c m pm)
    ])

-- where the devices join labels, they are the same all over a part
same_label : (c : Circuit) (phase : Phase) (known : List (Option Bool)) (bare : Bool) (t : List ℕ) → IsKnownTable c phase (known_at known)
    → ((d : Device) → Among c.devices d → joins_plain_nets c known bare d ≡ true → slice_index t d.left.0 ≡ slice_index t d.right.0)
    → (n m : ℕ) → IsTogether c phase bare n m → slice_index t n ≡ slice_index t m
same_label c phase known bare t table joined n m (itself p) = refl
same_label c phase known bare t table joined n m (onward {l = l} d more i j p) =
    let before = same_label c phase known bare t table joined n l more in
    let joins = channel_joins c phase known bare d l m table i j (together_plain c phase bare n l more) p in
    let over = joined d (device_among bare c d i.0).0 joins in
    elim j [
      | inl e ↦ before ∙ ap (slice_index t) (sym e.0) ∙ over ∙ ap (slice_index t) e.1
      | inr e ↦ before ∙ ap (slice_index t) (sym e.1) ∙ sym over ∙ ap (slice_index t) e.0
    ]

-- then each label is the least net of its part
pub labels_least : (c : Circuit) (phase : Phase) (known : List (Option Bool)) (bare : Bool) (t : List ℕ) → IsKnownTable c phase (known_at known)
    → ((d : Device) → Among c.devices d → joins_plain_nets c known bare d ≡ true → slice_index t d.left.0 ≡ slice_index t d.right.0)
    → ((n : ℕ) → slice_index t n ≤ n) → AreOfParts c phase bare t → (n : ℕ) → IsPlain c n → IsLeastTogether c phase bare n (slice_index t n)
labels_least c phase known bare t table joined below of n p = record {
  together = of n p;
  lowest = λ m together. let e = same_label c phase known bare t table joined n m together in let own = below m in omega (arith, e, own);
}

-- the numbers of the nets are labels to begin with
pub own_of_parts : (c : Circuit) (phase : Phase) (bare : Bool) (t : List ℕ) → length t ≡ length c.nets → ((n : ℕ) → n < length t → slice_index t n ≡ n) → AreOfParts c phase bare t
own_of_parts c phase bare t len own n p =
    let inside = slice_get_within c.nets n p.0 p.1 in
    subst (IsTogether c phase bare n) (sym (own n (omega (arith, inside, len)))) (itself p)

pub own_below : (t : List ℕ) → ((n : ℕ) → n < length t → slice_index t n ≡ n) → (n : ℕ) → slice_index t n ≤ n
own_below t own n =
    elim (cases_lt n (length t)) [
      | inl lt ↦ (let e = own n lt in omega (arith, e))
      | inr ge ↦ (let e : slice_index t n ≡ 0 = get_or_past t n 0 ge in omega (arith, e))
    ]

-- ---- devices

-- what a device has that joins plain nets
joins_parts : (c : Circuit) (known : List (Option Bool)) (bare : Bool) (d : Device) → joins_plain_nets c known bare d ≡ true
    → (is_in bare d ≡ true) × (may_conduct (conduction_of known d) ≡ true) × (is_plain_at c d.left.0 ≡ true) × (is_plain_at c d.right.0 ≡ true)
joins_parts c known bare d e =
    let both = and_parts (is_in bare d && may_conduct (conduction_of known d)) (is_plain_at c d.left.0 && is_plain_at c d.right.0) e in
    let first = and_parts (is_in bare d) (may_conduct (conduction_of known d)) both.0 in
    let second = and_parts (is_plain_at c d.left.0) (is_plain_at c d.right.0) both.1 in
    (first.0, first.1, second.0, second.1)

-- the nets that a device joins are of one part
pub joins_together : (c : Circuit) (phase : Phase) (known : List (Option Bool)) (bare : Bool) (d : Device) → IsKnownTable c phase (known_at known) → Among c.devices d → joins_plain_nets c known bare d ≡ true
    → IsTogether c phase bare d.left.0 d.right.0
joins_together c phase known bare d table there joins =
    let parts = joins_parts c known bare d joins in
    onward d (itself (plain_is c d.left.0 parts.2)) (may_channel c phase known bare d table there parts.0 parts.1) (inl (refl, refl)) (plain_is c d.right.0 parts.3)
