-- A net of a part responds in the circuit, in each state that agrees with a solution, as in the network of the part alone.
use Rattle.std.proofs.Common.{◌≡◌, ℕ, ◌<◌, ◌⊎◌, ◌+◌, Bool, true, Option, Some, length, arith, ap, refl, sym, subst, ◌∙◌, inl, inr}
use Rattle.std.specs.Prelude.{◌↔◌, slice_get}
use Rattle.circuit_faults.specs.Scans.{IsInside}
use Rattle.circuit_faults.specs.Ordered.{IsWholePart}
use Rattle.circuit_faults.specs.Faults.{HasFault, HasFixedBits, IsSettingAt, ShowsFault}
use Rattle.circuit_faults.proofs.Solutions.{circuit_in, given_reading, known_bit, levels, no_output, some_state, some_state_agrees, some_state_is, source}
use Rattle.vrt_model.specs.Networks.{Covers, HasLevels}
use Rattle.channel_parts.specs.OneSolution.{AreObserved}
use Rattle.channel_parts.specs.declared.part.Part.{Part}
use Rattle.known_nets.proofs.NetKinds.{given_or_plain}
use Rattle.circuit_faults.specs.Wholes.{HasSoundWholes}
use Rattle.vrt_model.proofs.Lists.{at_map}
use Rattle.vrt_model.specs.declared.whole.WholePin.{WholePin}
use Rattle.path_fixpoint.proofs.PinLaws.{pin_level}
use Rattle.path_fixpoint.specs.Parts.{part_devices, pins_of}
use Rattle.path_fixpoint.specs.Solved.{net_of}
use Rattle.vrt_model.proofs.Filtered.{device_among}
use Rattle.vrt_model.proofs.GatesGiven.{IsGiven}
use Rattle.vrt_model.proofs.Bounded.{response_inside}
use Rattle.vrt_model.proofs.Members.{all_among}
use Rattle.vrt_model.specs.Circuits.{IsDevice, IsHold}
use Rattle.vrt_model.specs.Known.{IsChannel, IsPlain}
use Rattle.vrt_model.specs.Lists.{At, Among}
use Rattle.vrt_model.specs.Path.{IsOn, Joins, Network}
use Rattle.vrt_model.specs.Reading.{bare, conducts_at, devices_of}
use Rattle.vrt_model.specs.Response.{Fight as Fights, Float as Floats, IsResponse, Response, Shows}
use Rattle.vrt_model.specs.Solution.{Agrees, AlwaysResponds, IsSolution}
use Rattle.vrt_model.specs.State.{IsState, OutputPin, Setting, State, output_pins}
use Rattle.vrt_model.specs.declared.circuit.Circuit.{Circuit}
use Rattle.vrt_model.specs.declared.circuit.Device.{Device}
use Rattle.vrt_model.specs.declared.circuit.Hold.{Hold}
use Rattle.vrt_model.specs.declared.rules.Phase.{Phase}
use Rattle.vrt_model.specs.declared.verdict.FaultKind.{FaultKind}
use Rattle.vrt_model.specs.declared.verdict.FaultKind.TheVariants.{Fight, FightKept, Float, Unsettled, Constraint, Differs, Next, Apart, Enter}
use Rattle.vrt_model.specs.Levels.{source_level}
use Rattle.path_fixpoint.proofs.SourceLevels.{device_below, hold_below}

-- in each state that agrees with a solution the outputs at a part have the bits of their roots, behind those of the nets
abbrev pub HasRootsAt : Circuit → Phase → (ℕ → Bool) → Setting → (ℕ → Option Bool) → Part → (ℕ → Bool) → Type 0
HasRootsAt c phase observed setting a part root =
    (at : ℕ) (out : OutputPin) → At (output_pins c) at out → IsInside part out.pin.net.0 → (s : State) → IsState c phase setting.inputs s → Agrees observed a s.reading
    → s.driven at ≡ root (length c.nets + at)

-- the network of a part, where the gates have these bits and the roots those
abbrev pub part_network : Circuit → Part → (ℕ → Bool) → (ℕ → Bool) → Network
part_network c part bit root = record {
  nets = c.nets;
  holds = c.holds;
  outputs = pins_of c;
  devices = part_devices c part;
  source = source_level c;
  reading = bit;
  given = root;
  held = λ at. root (net_of (slice_get c.holds at));
  driven = λ at. root (length c.nets + at);
}

module _ (which : Bool) (c : Circuit) (phase : Phase) (observed : ℕ → Bool) (wholes : HasSoundWholes c phase observed) (seen : AreObserved c observed)
    (seen_gates : (d : Device) → Among (devices_of which c) d → observed d.gate.0 ≡ true) (root : ℕ → Bool) (fixed : HasFixedBits c phase root)
    (setting : Setting) (here : IsSettingAt c root setting) (a : ℕ → Option Bool) (solves : IsSolution c phase observed setting a)
    (part : Part) (whole : IsWholePart which c phase part) (driven : HasRootsAt c phase observed setting a part root) (bit : ℕ → Bool)
    (gates : (d : Device) → Among (part_devices c part) d → a d.gate.0 ≡ Some (bit d.gate.0)) where
  abbrev pub alone : Network
  alone = part_network c part bit root

  abbrev pub circuit_at : State → Network
  circuit_at s = circuit_in which c phase observed wholes seen root fixed setting here s

  in_circuit : (d : Device) → Among (part_devices c part) d → IsDevice c d
  in_circuit d m = all_among (IsDevice c) c.devices d wholes.ranges.devices (device_among which c d (whole.devices d m).0).0

  alone_levels : HasLevels alone
  alone_levels = record {
    roots = λ r from. elim from [
      | inl g ↦ (let is = g.3 in omega (arith, is))
      | inr other ↦ elim other [
        | inl h ↦ (let is = h.4 in let below = hold_below c h.1.size (all_among (IsHold c) c.holds h.1 wholes.ranges.holds (h.0, h.2)).size in omega (arith, is, below.1))
        | inr o ↦ (let is = o.4 in let le = (pin_level c o.1 wholes.ranges (o.0, o.2)).1 in omega (arith, is, le))
      ]
    ];
    devices = λ d on. (device_below c d.level (in_circuit d on.0).level).1;
  }

  held_bit : (at : ℕ) (hold : Hold) → At c.holds at hold → IsPlain c hold.net.0 → setting.held at ≡ root (net_of (slice_get c.holds at))
  held_bit at hold e p = here.held at hold e p ∙ ap (λ (o : Option Hold). root (net_of o)) (sym e)

  -- both ends of a device are given or plain
  end_in : (d : Device) (m n : ℕ) → IsDevice c d → Joins d m n → m < length c.nets
  end_in d m n is j = elim j [ inl e ↦ subst (λ (x : ℕ). x < length c.nets) e.0 is.left | inr e ↦ subst (λ (x : ℕ). x < length c.nets) e.1 is.right ]

  bounded : (d : Device) (m n : ℕ) → IsChannel c phase which d → Joins d m n → IsInside part n → IsInside part m ⊎ IsGiven c m
  bounded d m n channel j i =
      elim (given_or_plain c m (end_in d m n (all_among (IsDevice c) c.devices d wholes.ranges.devices (device_among which c d channel.0).0) j)) [
        | inl g ↦ inr g
        | inr p ↦ inl (whole.closed d m n channel j i p)
      ]

  module _ (s : State) (is : IsState c phase setting.inputs s) (agrees : Agrees observed a s.reading) where
    channel : (d : Device) → IsOn (circuit_at s) d → IsChannel c phase which d
    channel d on = (
      on.0,
      λ v k. subst (λ (b : Bool). conducts_at d.kind b ≡ true)
          (agrees d.gate.0 v (seen_gates d on.0) (known_bit c phase observed wholes seen root fixed setting here a solves d.gate.0 v (seen_gates d on.0) k)) on.1,
    )

    -- an output at the part has the bit of its root
    driven_bit : (at : ℕ) (pin : WholePin) (n : ℕ) → At (pins_of c) at pin → n ≡ pin.net.0 → IsInside part n → s.driven at ≡ root (length c.nets + at)
    driven_bit at pin n e net i =
        let from = at_map (λ (out : OutputPin). out.pin) (output_pins c) at pin e in
        driven at from.0 from.1 (subst (IsInside part) (net ∙ ap (λ (p : WholePin). p.net.0) (sym from.2)) i) s is agrees

    gate_bit : (d : Device) → Among (part_devices c part) d → s.reading d.gate.0 ≡ bit d.gate.0
    gate_bit d m = agrees d.gate.0 (bit d.gate.0) (seen_gates d (whole.devices d m).0) (gates d m)

    there : Covers (circuit_at s) alone (IsInside part) (IsGiven c)
    there = record {
      source = refl;
      roots = λ r from in_it. elim from [
        | inl g ↦ inl (g.0, g.1, g.2, g.3, g.4 ∙ given_reading which c phase observed wholes seen root fixed setting here s is r.net (g.0, g.1, g.2))
        | inr other ↦ elim other [
          | inl h ↦ elim in_it [
            | inl i ↦ inr (inl (h.0, h.1, h.2, h.3, h.4, h.5 ∙ held_bit h.0 h.1 h.2 (subst (IsPlain c) h.3 (whole.plain r.net i))))
            | inr e ↦ absurd (let small = hold_below c h.1.size (all_among (IsHold c) c.holds h.1 wholes.ranges.holds (h.0, h.2)).size in let top : r.level ≡ source_level c = e.1 in let is = h.4 in omega (arith, small.1, top, is))
          ]
          | inr o ↦ elim in_it [
            | inl i ↦ inr (inr (o.0, o.1, o.2, o.3, o.4, o.5 ∙ driven_bit o.0 o.1 r.net o.2 o.3 i))
            | inr e ↦ absurd (no_output which c phase observed wholes seen root fixed setting here s o.0 o.1 o.2 (subst (IsGiven c) o.3 e.0))
          ]
        ]
      ];
      devices = λ m n d on j i.
          let m_in = whole.channels d m n (channel d on) j i in
          (m_in, subst (λ (b : Bool). conducts_at d.kind b ≡ true) (gate_bit d m_in) on.1);
      bounded = λ m n d on j i. bounded d m n (channel d on) j i;
      edge = λ n g. source which c phase observed wholes seen root fixed setting here s n g;
    }

    back : Covers alone (circuit_at s) (IsInside part) (IsGiven c)
    back = record {
      source = refl;
      roots = λ r from in_it. elim from [
        | inl g ↦ inl (g.0, g.1, g.2, g.3, g.4 ∙ sym (given_reading which c phase observed wholes seen root fixed setting here s is r.net (g.0, g.1, g.2)))
        | inr other ↦ elim other [
          | inl h ↦ elim in_it [
            | inl i ↦ inr (inl (h.0, h.1, h.2, h.3, h.4, h.5 ∙ sym (held_bit h.0 h.1 h.2 (subst (IsPlain c) h.3 (whole.plain r.net i)))))
            | inr e ↦ absurd (let small = hold_below c h.1.size (all_among (IsHold c) c.holds h.1 wholes.ranges.holds (h.0, h.2)).size in let top : r.level ≡ source_level c = e.1 in let is = h.4 in omega (arith, small.1, top, is))
          ]
          | inr o ↦ elim in_it [
            | inl i ↦ inr (inr (o.0, o.1, o.2, o.3, o.4, o.5 ∙ sym (driven_bit o.0 o.1 r.net o.2 o.3 i)))
            | inr e ↦ absurd (no_output which c phase observed wholes seen root fixed setting here s o.0 o.1 o.2 (subst (IsGiven c) o.3 e.0))
          ]
        ]
      ];
      devices = λ m n d on j i. ((whole.devices d on.0).0, subst (λ (b : Bool). conducts_at d.kind b ≡ true) (sym (gate_bit d on.0)) on.1);
      bounded = λ m n d on j i. bounded d m n (whole.devices d on.0) j i;
      edge = λ n g. (record { net = n; level = source_level c; value = root n }, inl (g.0, g.1, g.2, refl, refl), refl, refl);
    }

    pub response_alone : (n : ℕ) (r : Response) → IsInside part n → IsResponse (circuit_at s) n r → IsResponse alone n r
    response_alone n r i h =
        response_inside (circuit_at s) alone (IsInside part) (IsGiven c) (levels which c phase observed wholes seen root fixed setting here s) alone_levels there back n r i h

    pub response_there : (n : ℕ) (r : Response) → IsInside part n → IsResponse alone n r → IsResponse (circuit_at s) n r
    response_there n r i h =
        response_inside alone (circuit_at s) (IsInside part) (IsGiven c) alone_levels (levels which c phase observed wholes seen root fixed setting here s) back there n r i h

  -- under every reading that agrees with a solution, a net of the part responds as in the network of the part alone
  pub responds : (n : ℕ) (r : Response) → IsInside part n → AlwaysResponds c phase observed setting a which n r ↔ IsResponse alone n r
  responds n r i = (
    λ always.
        let s = some_state c phase observed wholes seen root fixed setting here a solves in
        let is = some_state_is c phase observed wholes seen root fixed setting here a solves in
        let agrees = some_state_agrees c phase observed wholes seen root fixed setting here a solves in
        response_alone s is agrees n r i (always s is agrees),
    λ h s is agrees. response_there s is agrees n r i h,
  )

module _ (c : Circuit) (phase : Phase) (observed : ℕ → Bool) (wholes : HasSoundWholes c phase observed) (seen : AreObserved c observed) (root : ℕ → Bool) (fixed : HasFixedBits c phase root)
    (setting : Setting) (here : IsSettingAt c root setting) (a : ℕ → Option Bool) (solves : IsSolution c phase observed setting a)
    (part : Part) (whole : IsWholePart bare c phase part) (driven : HasRootsAt c phase observed setting a part root) (bit : ℕ → Bool)
    (gates : (d : Device) → Among (part_devices c part) d → a d.gate.0 ≡ Some (bit d.gate.0)) where
  bare_responds : (n : ℕ) (r : Response) → IsInside part n → AlwaysResponds c phase observed setting a bare n r ↔ IsResponse (part_network c part bit root) n r
  bare_responds n r i = responds bare c phase observed wholes seen seen.gates root fixed setting here a solves part whole driven bit gates n r i

  -- the faults of a net of the part are those that it shows in the network of the part
  pub fault_alone : (kind : FaultKind) (n : ℕ) → IsInside part n → HasFault c phase observed setting a kind n → ShowsFault observed (part_network c part bit root) kind n
  fault_alone Fight n i f = (bare_responds n Fights i).0 f.1
  fault_alone Float n i f = (f.0, (bare_responds n Floats i).0 f.1)
  fault_alone FightKept n i f = f
  fault_alone Unsettled n i f = f
  fault_alone Constraint n i f = f
  fault_alone Differs n i f = f
  fault_alone Next n i f = f
  fault_alone Apart n i f = f
  fault_alone Enter n i f = f

  pub fault_there : (kind : FaultKind) (n : ℕ) → IsInside part n → ShowsFault observed (part_network c part bit root) kind n → HasFault c phase observed setting a kind n
  fault_there Fight n i f = (whole.plain n i, (bare_responds n Fights i).1 f)
  fault_there Float n i f = (f.0, (bare_responds n Floats i).1 f.1)
  fault_there FightKept n i f = f
  fault_there Unsettled n i f = f
  fault_there Constraint n i f = f
  fault_there Differs n i f = f
  fault_there Next n i f = f
  fault_there Apart n i f = f
  fault_there Enter n i f = f

  -- what an observed net of the part shows in that network is its bit
  pub bit_there : (n : ℕ) (v : Bool) → IsInside part n → observed n ≡ true → IsResponse (part_network c part bit root) n (Shows v) → a n ≡ Some v
  bit_there n v i o shows = (solves n v o).1 ((bare_responds n (Shows v) i).1 shows)
