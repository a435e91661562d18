-- What a part shows depends on its gates alone: two states that have the same bits there and the bits of the known nets
-- have the same responses in the part. It holds of any states, and needs no solution.
use Rattle.std.proofs.Common.{◌≡◌, ℕ, ◌<◌, Bool, true, false, length, refl, sym, subst, ◌∙◌, inl, inr}
use Rattle.known_nets.proofs.NetKinds.{given_or_plain}
use Rattle.vrt_model.proofs.Laws.{turned}
use Rattle.vrt_model.proofs.Bounded.{clear_inside, response_inside}
use Rattle.vrt_model.proofs.Filtered.{device_among}
use Rattle.vrt_model.proofs.GatesGiven.{IsGiven, given_once}
use Rattle.vrt_model.proofs.Members.{all_among, at_none}
use Rattle.vrt_model.proofs.Networks.{flat_outputs, flat_ranges, given_source, network_levels}
use Rattle.vrt_model.specs.Circuits.{IsDevice, IsFlat}
use Rattle.vrt_model.specs.Known.{IsChannel, IsInPart, IsKnown, IsTogether, onward}
use Rattle.vrt_model.specs.Lists.{At, Among}
use Rattle.vrt_model.specs.Networks.{Covers}
use Rattle.vrt_model.specs.Path.{IsOn, Joins, Network}
use Rattle.vrt_model.specs.Reading.{conducts_at, devices_of}
use Rattle.vrt_model.specs.Response.{Fight, Float, IsResponse, Reaches, Response, Shows}
use Rattle.vrt_model.specs.State.{IsState, Setting, State, network_of}
use Rattle.vrt_model.specs.declared.circuit.Circuit.{Circuit}
use Rattle.vrt_model.specs.declared.circuit.Device.{Device}
use Rattle.vrt_model.specs.declared.rules.Phase.{Phase}
use Rattle.vrt_model.specs.declared.whole.WholePin.{WholePin}

-- a reading has the bits of the known gates of the bare or the kept circuit
abbrev pub HasKnown : Circuit → Phase → Bool → (ℕ → Bool) → Type 0
HasKnown c phase which reading = (d : Device) → Among (devices_of which c) d → (v : Bool) → IsKnown c phase d.gate.0 v → reading d.gate.0 ≡ v

module _ (c : Circuit) (phase : Phase) (flat : IsFlat c) (setting : Setting) (which : Bool) (n : ℕ) where
  abbrev pub view : State → Network
  view s = network_of c which setting.held s

  no_output : (s : State) (at : ℕ) (pin : WholePin) → At (view s).outputs at pin → ⊥
  no_output s at pin e = at_none at pin (subst (λ ps. At ps at pin) (flat_outputs c which setting.held s flat.wholes) e)

  -- what conducts is a channel, where the known nets have their bits
  channel : (s : State) → HasKnown c phase which s.reading → (d : Device) → IsOn (view s) d → IsChannel c phase which d
  channel s known d on = (on.0, λ v k. subst (λ (b : Bool). conducts_at d.kind b ≡ true) (known d on.0 v k) on.1)

  same_given : (s t : State) → IsState c phase setting.inputs s → IsState c phase setting.inputs t → (m : ℕ) → IsGiven c m → s.reading m ≡ t.reading m
  same_given s t is it m g = given_once phase setting.inputs g.0.kind m (s.reading m) (t.reading m) g.2 (is.reading m g.0 g.1) (it.reading m g.0 g.1)

  end_in : (d : Device) (m l : ℕ) → IsDevice c d → Joins d m l → m < length c.nets
  end_in d m l is j = elim j [ inl e ↦ subst (λ (x : ℕ). x < length c.nets) e.0 is.left | inr e ↦ subst (λ (x : ℕ). x < length c.nets) e.1 is.right ]

  covers : (s t : State) → IsState c phase setting.inputs s → IsState c phase setting.inputs t → HasKnown c phase which s.reading
      → ((d : Device) → IsInPart c phase which n d → s.reading d.gate.0 ≡ t.reading d.gate.0)
      → Covers (view s) (view t) (IsTogether c phase which n) (IsGiven c)
  covers s t is it known same = record {
    source = refl;
    roots = λ r from in_it. elim from [
      | inl g ↦ inl (g.0, g.1, g.2, g.3, g.4 ∙ same_given s t is it r.net (g.0, g.1, g.2))
      | inr other ↦ elim other [
        | inl h ↦ inr (inl h)
        | inr o ↦ absurd (no_output s o.0 o.1 o.2)
      ]
    ];
    devices = λ m l d on j i.
        (on.0, subst (λ (b : Bool). conducts_at d.kind b ≡ true) (same d (l, m, i, channel s known d on, turned d m l j)) on.1);
    bounded = λ m l d on j i.
        let there = device_among which c d on.0 in
        elim (given_or_plain c m (end_in d m l (all_among (IsDevice c) c.devices d flat.devices there.0) j)) [
          | inl g ↦ inr g
          | inr p ↦ inl (onward d i (channel s known d on) (turned d m l j) p)
        ];
    edge = λ m g. given_source c which setting.held s (flat_ranges c flat) m g.0 g.1 g.2;
  }

  -- a net of the part responds in one state as in the other
  pub same_response : (s t : State) → IsState c phase setting.inputs s → IsState c phase setting.inputs t → HasKnown c phase which s.reading → HasKnown c phase which t.reading
      → ((d : Device) → IsInPart c phase which n d → s.reading d.gate.0 ≡ t.reading d.gate.0)
      → (m : ℕ) (r : Response) → IsTogether c phase which n m → IsResponse (view s) m r → IsResponse (view t) m r
  same_response s t is it ks kt same m r i h =
      response_inside (view s) (view t) (IsTogether c phase which n) (IsGiven c) (network_levels c which setting.held s (flat_ranges c flat))
      (network_levels c which setting.held t (flat_ranges c flat)) (covers s t is it ks same) (covers t s it is kt (λ d p. sym (same d p))) m r i h

  -- ---- a net with a given value responds in one state as in the other

  edge_covers : (s t : State) → IsState c phase setting.inputs s → IsState c phase setting.inputs t → Covers (view s) (view t) (λ m. ⊥) (IsGiven c)
  edge_covers s t is it = record {
    source = refl;
    roots = λ r from in_it. elim from [
      | inl g ↦ inl (g.0, g.1, g.2, g.3, g.4 ∙ same_given s t is it r.net (g.0, g.1, g.2))
      | inr other ↦ elim other [
        | inl h ↦ inr (inl h)
        | inr o ↦ absurd (no_output s o.0 o.1 o.2)
      ]
    ];
    devices = λ m l d on j i. absurd i;
    bounded = λ m l d on j i. absurd i;
    edge = λ m g. given_source c which setting.held s (flat_ranges c flat) m g.0 g.1 g.2;
  }

  reaches_edge : (s t : State) → IsState c phase setting.inputs s → IsState c phase setting.inputs t → (m : ℕ) (v : Bool) → IsGiven c m → Reaches (view s) m v → Reaches (view t) m v
  reaches_edge s t is it m v g r =
      let h = clear_inside (view s) (view t) (λ l. ⊥) (IsGiven c) (network_levels c which setting.held s (flat_ranges c flat)) (network_levels c which setting.held t (flat_ranges c flat))
      (edge_covers s t is it) (edge_covers t s it is) r.0 r.1 r.2 r.3 (inr (subst (IsGiven c) (sym r.4) g)) in
      (r.0, r.1, h.0, h.1, r.4, r.5)

  pub given_response : (s t : State) → IsState c phase setting.inputs s → IsState c phase setting.inputs t → (m : ℕ) (r : Response) → IsGiven c m → IsResponse (view s) m r → IsResponse (view t) m r
  given_response s t is it m Fight g h = (reaches_edge s t is it m true g h.0, reaches_edge s t is it m false g h.1)
  given_response s t is it m Float g h = (λ r. h.0 (reaches_edge t s it is m true g r), λ r. h.1 (reaches_edge t s it is m false g r))
  given_response s t is it m (Shows true) g h = (reaches_edge s t is it m true g h.0, λ r. h.1 (reaches_edge t s it is m false g r))
  given_response s t is it m (Shows false) g h = (reaches_edge s t is it m false g h.0, λ r. h.1 (reaches_edge t s it is m true g r))
