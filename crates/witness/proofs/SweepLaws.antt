-- A part's own devices, with the roots of the circuit, show at the nets of the part what the whole circuit shows there.
use Rattle.std.proofs.Common.{◌≡◌, ℕ, ◌<◌, ◌⊎◌, Bool, true, false, List, Option, Some, length, slice_get, arith, refl, sym, subst, ◌∙◌, inl, inr}
use Rattle.channel_parts.specs.PartLists.{IsPartOf, least_of, net_numbers}
use Rattle.channel_parts.specs.declared.part.Part.{Part}
use Rattle.known_nets.proofs.NetKinds.{given_or_plain}
use Rattle.known_nets.specs.KnownTables.{known_at}
use Rattle.plain_paths.proofs.LocalLaws.{device_from, local_device, with_bound}
use Rattle.plain_paths.specs.Local.{Shows as HasSignals, devices_at, filled_at, network_with}
use Rattle.plain_paths.specs.declared.signals.Signals.{Signals}
use Rattle.vrt_model.proofs.Bounded.{response_inside}
use Rattle.vrt_model.proofs.Filtered.{device_among}
use Rattle.vrt_model.proofs.GatesGiven.{IsGiven, given_once}
use Rattle.vrt_model.proofs.Laws.{turned}
use Rattle.vrt_model.proofs.Lists.{filter_map_among, map_among, one_at}
use Rattle.vrt_model.proofs.Members.{among_map, at_none}
use Rattle.vrt_model.proofs.Networks.{flat_outputs, flat_ranges, given_source, network_bound, network_levels}
use Rattle.vrt_model.proofs.Tables.{signal_response}
use Rattle.vrt_model.specs.Circuits.{IsFlat}
use Rattle.vrt_model.specs.Known.{IsChannel, IsInPart, IsTogether, onward}
use Rattle.vrt_model.specs.Lists.{At, Among, bit_at}
use Rattle.vrt_model.specs.Networks.{Covers, HasLevels}
use Rattle.vrt_model.specs.Path.{IsOn, IsRoot, Joins, Network, Root}
use Rattle.vrt_model.specs.Reading.{IsReading, conducts_at}
use Rattle.vrt_model.specs.Response.{IsResponse}
use Rattle.vrt_model.specs.Signals.{response_by}
use Rattle.vrt_model.specs.State.{Setting, State, network_of}
use Rattle.vrt_model.specs.declared.circuit.Circuit.{Circuit}
use Rattle.vrt_model.specs.declared.circuit.Device.{Device}
use Rattle.vrt_model.specs.declared.ids.Dev.{Dev}
use Rattle.vrt_model.specs.declared.rules.Phase.{Phase}
use Rattle.vrt_model.specs.declared.whole.WholePin.{WholePin}
use Rattle.witness.proofs.LookLaws.{filled_is, filled_state, filled_state_is, seen_is}
use Rattle.witness.proofs.SettleLaws.{bit_shown_is, seen_moves}
use Rattle.witness.specs.Looks.{is_stopped, seen_by}
use Rattle.witness.specs.Replays.{HasSeen}
use Rattle.witness.specs.Settling.{Stands}
use Rattle.witness.specs.Views.{shown_by}

module _ (c : Circuit) (phase : Phase) (flat : IsFlat c) (setting : Setting) (rank : ℕ → ℕ) (part : Part) (is : IsPartOf c phase true rank part) (bits : List (Option Bool))
    (stands : Stands c phase setting (known_at bits)) (given : ℕ → Bool) (reads : IsReading c phase setting.inputs given) where
  -- ---- the devices of the part

  device_in : (d : Device) → Among (devices_at c part.devices) d → IsInPart c phase true (least_of part) d
  device_in d m =
      let from = device_from c part.devices d m in
      let own = (is.devices from.0.0).0 (map_among (λ (k : Dev). k.0) part.devices from.0 from.1) in
      subst (IsInPart c phase true (least_of part)) (one_at c.devices from.0.0 own.0 d own.1 from.2) own.2

  in_device : (d : Device) → IsInPart c phase true (least_of part) d → Among (devices_at c part.devices) d
  in_device d p =
      let place = (device_among true c d p.3.0).0 in
      let from = among_map (λ (k : Dev). k.0) part.devices place.0 ((is.devices place.0).1 (d, place.1, p)) in
      filter_map_among (λ (k : Dev). slice_get c.devices k.0) part.devices from.1.0 from.0 d from.1.1 (subst (λ (x : ℕ). At c.devices x d) (sym from.2) place.1)

  -- ---- the two networks

  abbrev pub part_network : Network
  part_network = network_with c (filled_at bits) given setting.held (devices_at c part.devices)

  abbrev state : State
  state = filled_state c phase flat setting true bits stands.given stands.known (λ m. false)

  abbrev whole : Network
  whole = network_of c true setting.held state

  abbrev Inside : ℕ → Type 0
  Inside = IsTogether c phase true (least_of part)

  no_output : (at : ℕ) (pin : WholePin) → At whole.outputs at pin → ⊥
  no_output at pin e = at_none at pin (subst (λ (ps : List WholePin). At ps at pin) (flat_outputs c true setting.held state flat.wholes) e)

  same_given : (m : ℕ) → IsGiven c m → given m ≡ filled_at bits m
  same_given m g =
      given_once phase setting.inputs g.0.kind m (given m) (filled_at bits m) g.2 (reads m g.0 g.1)
      ((filled_state_is c phase flat setting true bits stands.given stands.known (λ k. false)).reading m g.0 g.1)

  -- what conducts in the whole circuit is a channel, since the known gates have their bits
  channel : (d : Device) → IsOn whole d → IsChannel c phase true d
  channel d on =
      (on.0, λ v k. subst (λ (b : Bool). conducts_at d.kind b ≡ true) (filled_is c phase flat setting true bits stands.given stands.known d.gate.0 v (stands.known d.gate.0 v k)) on.1)

  bounded_by : (m l : ℕ) (d : Device) → m < length c.nets → IsChannel c phase true d → Joins d m l → Inside l → Inside m ⊎ IsGiven c m
  bounded_by m l d lt ch j i = elim (given_or_plain c m lt) [ inl g ↦ inr g | inr p ↦ inl (onward d i ch (turned d m l j) p) ]

  -- ---- the levels

  as_root : (root : Root) → IsRoot part_network root → IsRoot (network_of c true setting.held (record { reading = given; driven = λ m. false })) root
  as_root root (inl g) = inl g
  as_root root (inr (inl h)) = inr (inl h)
  as_root root (inr (inr o)) = absurd (at_none o.0 o.1 o.2)

  local_levels : HasLevels part_network
  local_levels = record {
    roots = λ root r. (network_levels c true setting.held (record { reading = given; driven = λ m. false }) (flat_ranges c flat)).roots root (as_root root r);
    devices = λ d on. let le = (local_device c flat part.devices d on.0).level.1 in omega (arith, le);
  }

  -- ---- each covers the other

  there : Covers part_network whole Inside (IsGiven c)
  there = record {
    source = refl;
    roots = λ r from in_it. elim from [
      | inl g ↦ inl (g.0, g.1, g.2, g.3, g.4 ∙ same_given r.net (g.0, g.1, g.2))
      | inr other ↦ elim other [
        | inl h ↦ inr (inl h)
        | inr o ↦ absurd (at_none o.0 o.1 o.2)
      ]
    ];
    devices = λ m l d on j i. ((device_in d on.0).3.0, on.1);
    bounded = λ m l d on j i.
        bounded_by m l d ((with_bound c flat (filled_at bits) given setting.held (devices_at c part.devices) (local_device c flat part.devices)).hops l m d on (turned d m l j)) (device_in d on.0).3 j i;
    edge = λ m g. (record { net = m; level = part_network.source; value = given m }, inl (g.0, g.1, g.2, refl, refl), refl, refl);
  }

  back : Covers whole part_network Inside (IsGiven c)
  back = record {
    source = refl;
    roots = λ r from in_it. elim from [
      | inl g ↦ inl (g.0, g.1, g.2, g.3, g.4 ∙ sym (same_given r.net (g.0, g.1, g.2)))
      | inr other ↦ elim other [
        | inl h ↦ inr (inl h)
        | inr o ↦ absurd (no_output o.0 o.1 o.2)
      ]
    ];
    devices = λ m l d on j i. (in_device d (l, m, i, channel d on, turned d m l j), on.1);
    bounded = λ m l d on j i. bounded_by m l d ((network_bound c true setting.held state (flat_ranges c flat)).hops l m d on (turned d m l j)) (channel d on) j i;
    edge = λ m g. given_source c true setting.held state (flat_ranges c flat) m g.0 g.1 g.2;
  }

  -- ---- what a net of the part shows

  local_seen : (t : Signals) → HasSignals part_network t → is_stopped c bits part.devices ≡ false → (n : ℕ) → Among (net_numbers part.nets) n
      → HasSeen c phase setting (known_at bits) true n (seen_by (bit_at t.zeros.items n) (bit_at t.ones.items n))
  local_seen t shows ready n m =
      let zero = bit_at t.zeros.items n in
      let one = bit_at t.ones.items n in
      let here : IsResponse part_network n (response_by zero one) = signal_response part_network t.strengths.items t.zeros.items t.ones.items shows n in
      let far : IsResponse whole n (response_by zero one) =
      response_inside part_network whole Inside (IsGiven c) local_levels (network_levels c true setting.held state (flat_ranges c flat)) there back n (response_by zero one) ((is.nets n).0 m) here in
      seen_is c phase flat setting true bits stands.given stands.known part rank is n m (λ k. false) ready zero one far

  -- the bits that these nets show are added to bits that stand
  pub stands_swept : (t : Signals) → HasSignals part_network t → is_stopped c bits part.devices ≡ false → (new : List (Option Bool))
      → ((n : ℕ) (v : Bool) → known_at bits n ≡ Some v → known_at new n ≡ Some v)
      → ((n : ℕ) (v : Bool) → known_at new n ≡ Some v → (known_at bits n ≡ Some v) ⊎ (Among (net_numbers part.nets) n × (shown_by t n ≡ Some v)))
      → Stands c phase setting (known_at new)
  stands_swept t shows ready new grown only = record {
    given = λ n net v at g h. grown n v (stands.given n net v at g h);
    known = λ n v k. grown n v (stands.known n v k);
    shown = λ n v e. seen_moves c phase flat setting (known_at bits) (known_at new) grown n v (elim (only n v e) [
      | inl before ↦ stands.shown n v before
      | inr shown ↦
          let seen = seen_by (bit_at t.zeros.items n) (bit_at t.ones.items n) in
          subst (HasSeen c phase setting (known_at bits) true n) (bit_shown_is seen v shown.1) (local_seen t shows ready n shown.0)
    ]);
  }

-- the reading with the bits at the start is one of the given nets
pub filled_given : (c : Circuit) (phase : Phase) → IsFlat c → (setting : Setting) (bits : List (Option Bool)) → Stands c phase setting (known_at bits) → IsReading c phase setting.inputs (filled_at bits)
filled_given c phase flat setting bits stands = (filled_state_is c phase flat setting true bits stands.given stands.known (λ m. false)).reading
