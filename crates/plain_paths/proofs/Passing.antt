-- The channels that the rounds go over are those of the conducting devices of the circuit's network.
use Rattle.std.proofs.Common.{◌≡◌, ℕ, Bool, true, false, List, [], ◌∷◌, ◌++◌, length, map, ap, refl, sym, subst, ◌∙◌}
use Rattle.std.specs.Prelude.{All, ◌↔◌, filter, slice_index_or}
use Rattle.std.proofs.lemmas.Bool.{and_from, and_parts}
use Rattle.std.proofs.lemmas.List.{map-append}
use Rattle.std.proofs.lemmas.List.Elements.{filter-append}
use Rattle.std.proofs.lemmas.Option.{slice_get-get_or, unwrap_or-slice_get}
use Rattle.vrt_model.proofs.Filtered.{among_devices, among_kept, device_among, filter_among}
use Rattle.vrt_model.proofs.Lists.{map_among}
use Rattle.vrt_model.proofs.Members.{all_among, among_map}
use Rattle.vrt_model.proofs.Networks.{flat_outputs}
use Rattle.vrt_model.specs.Circuits.{IsDevice, IsFlat}
use Rattle.vrt_model.specs.Lists.{Among, bit_at, mark_at}
use Rattle.vrt_model.specs.Reading.{conducts, is_in}
use Rattle.vrt_model.specs.State.{State, network_of}
use Rattle.vrt_model.specs.declared.circuit.Circuit.{Circuit}
use Rattle.vrt_model.specs.declared.circuit.Device.{Device}
use Rattle.plain_paths.specs.Channels.{HasChannels, IsOver, IsInRange, channel_of, channels_of, channels_over, is_on}
use Rattle.plain_paths.specs.declared.channels.Channel.{Channel}

-- the channels of one device more
pub channels_last : (bare : Bool) (reading : ℕ → Bool) (devices : List Device) (d : Device)
    → channels_over bare reading devices ++ channels_over bare reading (d ∷ []) ≡ channels_over bare reading (devices ++ d ∷ [])
channels_last bare reading devices d =
    sym (map-append channel_of (filter (is_on bare reading) devices) (filter (is_on bare reading) (d ∷ [])))
    ∙ ap (map channel_of) (sym (filter-append (is_on bare reading) devices (d ∷ [])))

-- a channel is that of a device of the circuit
channel_from : (c : Circuit) (bare : Bool) (reading : ℕ → Bool) (ch : Channel) → Among (channels_of bare reading c) ch
    → (d : Device) × Among c.devices d × (is_on bare reading d ≡ true) × (channel_of d ≡ ch)
channel_from c bare reading ch m =
    let from = among_map channel_of (filter (is_on bare reading) c.devices) ch m in
    let kept = filter_among (is_on bare reading) c.devices from.0 from.1 in
    (from.0, kept.0, kept.1, from.2)

-- the nets of the channels are nets of the circuit
pub channels_within : (c : Circuit) (bare : Bool) (reading : ℕ → Bool) → IsFlat c → All (IsInRange (length c.nets)) (channels_of bare reading c)
channels_within c bare reading good k d lt =
    let ch : Channel = slice_index_or (channels_of bare reading c) k d in
    let from = channel_from c bare reading ch (k, slice_get-get_or (channels_of bare reading c) k d lt) in
    let is = all_among (IsDevice c) c.devices from.0 good.devices from.1 in
    subst (λ (x : Channel). IsInRange (length c.nets) x) from.3 (is.left, is.right)

pub network_channels : (c : Circuit) (bare : Bool) (held : ℕ → Bool) (s : State) → HasChannels (network_of c bare held s) (channels_of bare s.reading c)
network_channels c bare held s = record {
  each = λ ch m.
      let from = channel_from c bare s.reading ch m in
      let parts = and_parts (is_in bare from.0) (conducts s.reading from.0) from.2 in
      (from.0, (among_devices bare c from.0 from.1 parts.0, parts.1), from.3);
  all = λ d on.
      let h = device_among bare c d on.0 in
      map_among channel_of (filter (is_on bare s.reading) c.devices) d
      (among_kept (is_on bare s.reading) c.devices d h.0 (and_from (is_in bare d) (conducts s.reading d) h.1 on.1));
}

-- without whole instances the network has no output pins
pub network_over : (c : Circuit) (bare : Bool) (held : ℕ → Bool) (s : State) → c.wholes ≡ [] → IsOver c (network_of c bare held s)
network_over c bare held s flat = record {
  nets = refl;
  holds = refl;
  outputs = flat_outputs c bare held s flat;
  source = refl;
}

-- the two ways to read a mark
pub mark_bit : (marks : List Bool) (n : ℕ) → bit_at marks n ≡ mark_at marks n
mark_bit marks n = unwrap_or-slice_get marks n false

pub bits_mean : (marks : List Bool) (n : ℕ) (P : Type 0) → (mark_at marks n ≡ true) ↔ P → (bit_at marks n ≡ true) ↔ P
bits_mean marks n P h = (λ e. h.0 (sym (mark_bit marks n) ∙ e), λ p. mark_bit marks n ∙ h.1 p)
