-- The flat circuit of a cell stands in the circuit before a step.
use Rattle.std.proofs.Common.{◌≡◌, ◌⊎◌, ◌<◌, ◌≤◌, ◌&&◌, ◌||◌, ℕ, zero, suc, cond, List, [], Bool, true, false, refl, ap, ap₂, sym, ◌∙◌, subst, arith, inl, inr}
use Rattle.std.specs.Prelude.{nat_lt, ◌==◌}
use Rattle.std.proofs.lemmas.Bool.{and_left, and_parts, and_right, cases_Bool, eq-eqb, eqb-true, false_from_ne_true, false≢true, ltb-true, or_cases}
use Rattle.cell_inside.specs.Inside.{Touches}
use Rattle.cell_inside.specs.Placed.{IsImage, IsPlaced, IsSupply}
use Rattle.cell_inside.specs.Shifted.{IsWithinDepth}
use Rattle.checked_chain.proofs.ChoiceLaws.{numbered_at}
use Rattle.checked_chain.proofs.DriveLaws.{last_there, nothing_in, other_instance, outputs_more}
use Rattle.placed_cells.proofs.CutLaws.{cut_shows_inside}
use Rattle.placed_cells.proofs.DepthLaws.{ordered_is_within_depth}
use Rattle.placed_cells.proofs.InstanceLaws.{inside_image, instance_is_placed}
use Rattle.placed_cells.specs.Above.{net_above, place_alone}
use Rattle.placed_cells.specs.Instances.{HasPlacedPorts, ShowsInside}
use Rattle.placed_cells.specs.Splits.{IsSplit}
use Rattle.replaced_instances.proofs.Exposures.{AreExposed, IsExposed, channel_at_net, channel_low, no_channel_at, no_other_at, not_alone, other_at, other_drive}
use Rattle.replaced_instances.proofs.PinOutputs.{pin_output, settled}
use Rattle.replaced_instances.proofs.StepPlaces.{earlier_or_inside}
use Rattle.replaced_instances.proofs.StepPorts.{IsPortNet, free, keeps_free, may, met_kind, no_holds, none, output_plain, plain_output, port_or_supply, tied}
use Rattle.replaced_instances.specs.Steps.{IsStep, compared_at}
use Rattle.vrt_model.proofs.Filtered.{filter_among}
use Rattle.vrt_model.proofs.Lists.{map_among, one_at}
use Rattle.vrt_model.proofs.Members.{among_flat_map, among_map, at_all}
use Rattle.vrt_model.specs.Checked.{IsCircuitWith, before, circuit_with, may_meet_channels, with_one}
use Rattle.vrt_model.specs.CheckedParts.{checked_devices, moved_end}
use Rattle.vrt_model.specs.Comparison.{Comparison, CellPort, ports_of}
use Rattle.vrt_model.specs.Cut.{Cut, NumberedPlace, is_whole, numbered_places, whole_places}
use Rattle.vrt_model.specs.Facts.{output_ports}
use Rattle.vrt_model.specs.FlatCircuit.{flat_circuit_of, kind_by_role, flat_holds, flat_nets}
use Rattle.vrt_model.specs.Known.{IsHeld, IsPlain}
use Rattle.vrt_model.specs.Levels.{source_level}
use Rattle.vrt_model.specs.Lists.{Among, At, is_empty}
use Rattle.vrt_model.specs.Path.{level_of_drive}
use Rattle.vrt_model.specs.State.{OutputPin, output_pins}
use Rattle.vrt_model.specs.Unrolled.{Place, Top}
use Rattle.vrt_model.specs.WholeInstances.{OutputAt, all_outputs, channels_at, meets_gates_only, others_at, outputs_of_place}
use Rattle.vrt_model.specs.declared.blif.Blif.{Blif}
use Rattle.vrt_model.specs.declared.circuit.Circuit.{Circuit}
use Rattle.vrt_model.specs.declared.circuit.Device.{Device}
use Rattle.vrt_model.specs.declared.circuit.FlatNet.{FlatNet}
use Rattle.vrt_model.specs.declared.circuit.Hold.{Hold}
use Rattle.vrt_model.specs.declared.whole.CellFacts.{CellFacts}
use Rattle.vrt_model.specs.declared.whole.Drive.{Drive}
use Rattle.vrt_model.specs.declared.whole.Drive.TheVariants.{Soft}
use Rattle.vrt_model.specs.declared.whole.WholePin.{WholePin}

-- ---- what circuits with different choices share

module _ (cut other : Cut) (blif : Blif) (facts : List CellFacts) (c : Circuit) (circuit : IsCircuitWith cut blif facts c) where
  -- a net that is plain in one of them is in the other
  pub plain_with : other.top ≡ cut.top → (n : ℕ) → IsPlain (circuit_with other blif facts) n → IsPlain c n
  unfolding circuit_with
  plain_with same n plain = (plain.0, subst (λ (nets : List FlatNet). At nets n plain.0) (ap flat_nets same ∙ sym circuit.nets) plain.1, plain.2)

  -- so is one that is held
  pub held_with : other.top ≡ cut.top → (n : ℕ) → IsHeld c n → IsHeld (circuit_with other blif facts) n
  unfolding circuit_with
  held_with same n held =
      let moved : Cut → Hold → Hold = λ x h. record h { end = moved_end x h.end } in
      let from = among_map (moved cut) (flat_holds cut.top) held.0 (subst (λ (hs : List Hold). Among hs held.0) circuit.holds held.1) in
      let there = map_among (moved other) (flat_holds other.top) from.0 (subst (λ (t : Top). Among (flat_holds t) from.0) (sym same) from.1) in
      (moved other from.0, there, ap (λ (h : Hold). h.net.0) from.2 ∙ held.2)

module _ (cut : Cut) (blif : Blif) (facts : List CellFacts) (i : ℕ) (p : NumberedPlace) (m : ℕ) (step : IsStep cut blif facts i p m)
    (depth : ℕ) (front back : List Place) (split : IsSplit cut.top (suc i) p.at depth front back)
    (c : Circuit) (circuit : IsCircuitWith (before cut i) blif facts c) where
  abbrev t : Top
  t = cut.top

  abbrev k : Comparison
  k = compared_at cut.top blif p m

  abbrev at : ℕ → ℕ
  at n = net_above cut.top p.at n

  abbrev base : ℕ
  base = (place_alone cut.top p.at).base

  abbrev outs : List OutputAt
  outs = outputs_of_place cut.top blif facts p

  abbrev later : List OutputAt
  later = all_outputs (before cut (suc i)) blif facts

  abbrev remaining : List Device
  remaining = checked_devices (before cut (suc i))

  output_there : (o : OutputAt) → Among outs o → Among later o
  output_there o m = last_there cut blif facts i p step.place step.chosen o m

  -- ---- what whole instances drive

  -- an output pin is that of an output before
  pub pin_before : (out : OutputPin) → Among (output_pins c) out
      → (o : OutputAt) × Among (all_outputs (before cut i) blif facts) o × (o.pin.net.0 ≡ out.pin.net.0) × (settled (before cut i) blif facts o ≡ out.pin)
  pin_before out m =
      let o = pin_output (before cut i) blif facts c circuit m.0 out m.1 in
      (o.0, (m.0, o.1), ap (λ (pin : WholePin). pin.net.0) o.2, o.2)

  -- at the net of an output of this instance, one of another instance is another one
  pub other_there : (o one : OutputAt) → Among outs o → Among (all_outputs (before cut i) blif facts) one → one.pin.net.0 ≡ o.pin.net.0 → Among (others_at later o) one
  other_there o one on there same = other_at remaining later o one (outputs_more cut blif facts i p step.place step.chosen one there) same (apart (cases_Bool (one.instance == o.instance)))
    where
      apart : (one.instance == o.instance ≡ true) ⊎ (one.instance == o.instance ≡ false) → ((one.instance == o.instance) && (one.output == o.output)) ≡ false
      apart (inr other) = and_left (one.instance == o.instance) (one.output == o.output) other
      apart (inl mine) =
          let instance = eq-eqb o.instance one.instance (sym (eqb-true one.instance o.instance mine)) in
          absurd (false≢true (sym (other_instance cut blif facts i p step.place step.chosen o one on there) ∙ instance))

  -- it is at a plain net
  earlier_plain : (o : OutputAt) → Among (all_outputs (before cut i) blif facts) o → IsPlain c o.pin.net.0
  earlier_plain o there = by_number from.0.number refl
    where
      from : (q : NumberedPlace) × Among (whole_places (before cut i)) q × Among (outputs_of_place t blif facts q) o
      from = among_flat_map (outputs_of_place t blif facts) (whole_places (before cut i)) o there

      kept : Among (numbered_places t) from.0 × (is_whole (before cut i).choice from.0.number ≡ true)
      kept = filter_among (λ (q : NumberedPlace). is_whole (before cut i).choice q.number) (numbered_places t) from.0 from.1

      by_number : (n : ℕ) → from.0.number ≡ n → IsPlain c o.pin.net.0
      by_number zero e = absurd (false≢true (subst (λ (n : ℕ). is_whole (before cut i).choice n ≡ true) e kept.1))
      by_number (suc j) e =
          let chosen = (and_parts (cut.choice j) (nat_lt j i) (subst (λ (n : ℕ). is_whole (before cut i).choice n ≡ true) e kept.1)).0 in
          let here = subst (λ (n : ℕ). At (numbered_places t) n from.0) (sym (numbered_at t kept.0.0 from.0 kept.0.1).0 ∙ e) kept.0.1 in
          let there = (step.tried j from.0 here chosen).1.1 in
          plain_with (before cut i) (with_one (before cut j) j) blif facts c circuit refl o.pin.net.0 (there.plain o from.2).0

  -- ---- the ports

  within : IsWithinDepth t depth p.at.cell
  within = split.within (ordered_is_within_depth t t.cell step.netlist.ordered step.netlist.there)

  -- no input and no clock port meets a channel of the cell
  channel_at : (d : Device) (n : ℕ) → Among k.circuit.devices d → Touches d n → n < base → IsPlain k.circuit n ⊎ ((value : Bool) × IsSupply k.circuit n value)
  channel_at d n on touch lt = by_net (port_or_supply cut blif facts i p m step n lt)
    where
      by_kind : (port : CellPort) (net : FlatNet) → At k.circuit.nets n net → net.kind ≡ kind_by_role port.role → may_meet_channels port.role ≡ true
          → IsPlain k.circuit n ⊎ ((value : Bool) × IsSupply k.circuit n value)
      by_kind port net there kind may =
          elim (met_kind port.role may) [
            | inl plain ↦ inl (net, there, kind ∙ plain)
            | inr supply ↦ inr (supply.0, (net, there, kind ∙ supply.1))
          ]

      by_net : ((value : Bool) × IsSupply k.circuit n value) ⊎ IsPortNet cut blif facts i p m step n → IsPlain k.circuit n ⊎ ((value : Bool) × IsSupply k.circuit n value)
      by_net (inl s) = inr s
      by_net (inr q) =
          let test : CellPort → Bool = λ port. may_meet_channels port.role || is_empty (channels_at k.circuit.devices port.net) in
          elim (or_cases (may_meet_channels q.0.role) (is_empty (channels_at k.circuit.devices q.0.net)) (at_all test (ports_of k) q.1.0 q.0 (keeps_free cut blif facts i p m step) q.1.1)) [
            | inl may ↦ by_kind q.0 q.3 q.4 q.5 may
            | inr empty ↦
                absurd (nothing_in (channels_at k.circuit.devices q.0.net) d empty
                (channel_at_net k.circuit.devices [] d q.0.net on (subst (λ (x : ℕ). Touches d x) (sym q.2) touch)))
          ]

  -- ---- what its outputs meet

  module _ (exposed : ℕ → Bool) (drive : ℕ → ℕ) (exposure : AreExposed cut blif facts i p m exposed drive) where
    -- the output at a plain net below the own ones
    abbrev pub OutputOn : ℕ → Type 0
    OutputOn n = (port : CellPort) × (o : OutputAt) × At (output_ports k) o.output port × At outs o.output o × (port.net ≡ n) × (o.pin.net.0 ≡ at n)

    pub is_exposed : (n : ℕ) (out : OutputOn n) → exposed n ≡ true → IsExposed cut blif facts i (drive n) out.1
    is_exposed n out e =
        subst (λ (x : ℕ). IsExposed cut blif facts i (drive x) out.1) out.4
        (exposure.outputs out.1 out.0 out.3 out.2 (subst (λ (x : ℕ). exposed x ≡ true) (sym out.4) e))

    pub is_alone : (n : ℕ) (out : OutputOn n) → exposed n ≡ false → meets_gates_only remaining later out.1 ≡ true
    is_alone n out e = exposure.others out.1 out.0 out.3 out.2 (subst (λ (x : ℕ). exposed x ≡ false) (sym out.4) e)

    -- a device at an output is one of the cell, or the output is exposed, and the device is not above its drive
    device_at : (e : Device) (n : ℕ) → n < base → Among c.devices e → IsPlain k.circuit n → Touches e (at n)
        → ((d : Device) × Among k.circuit.devices d × IsImage at d e) ⊎ ((exposed n ≡ true) × (e.level ≤ drive n))
    unfolding flat_circuit_of
    device_at e n lt on plain touch =
        let out = plain_output cut blif facts i p m step n lt plain in
        let there = subst (λ (x : ℕ). Touches e x) (sym out.5) touch in
        elim (earlier_or_inside cut blif facts i p step.place step.chosen depth front back split step.netlist.design e (subst (λ (ds : List Device). Among ds e) circuit.devices on)) [
          | inl stays ↦ elim (cases_Bool (exposed n)) [
            | inl more ↦ inr (more, channel_low remaining later out.1 (drive n) (is_exposed n out more).fits e stays there)
            | inr none_of ↦ absurd (no_channel_at remaining later out.1 e (is_alone n out none_of) stays there)
          ]
          | inr inside ↦
              let d = inside_image t k.pairing.ports (suc i) p.at depth front back split (tied cut blif facts i p m step) (none cut blif facts i p m step) within inside.0 inside.1 inside.2 inside.3 in
              inl (d.0, d.1, subst (λ (x : Device). IsImage at d.0 x) inside.4 d.2)
        ]

    -- an output of another instance that is at one has its drive, soft or not
    pin_at_net : (out : OutputPin) (n : ℕ) → n < base → Among (output_pins c) out → IsPlain k.circuit n → out.pin.net.0 ≡ at n
        → (exposed n ≡ true) × (level_of_drive (source_level c) out.pin.drive ≤ drive n)
    pin_at_net out n lt on plain same =
        elim (cases_Bool (exposed n)) [
          | inr none_of ↦ absurd (no_other_at remaining later o.1 one.0 (is_alone n o none_of) other)
          | inl more ↦
              let is = is_exposed n o more in
              let gates = not_alone (checked_devices (before cut i)) earlier one.0 is.met.0
              (subst (λ (x : ℕ). Among (channels_at (checked_devices (before cut i)) x) is.met.0) (sym net) is.met.1) in
              let level : level_of_drive (source_level c) out.pin.drive ≡ drive n =
              ap (λ (x : WholePin). level_of_drive (source_level c) x.drive) (sym one.3)
              ∙ ap₂ (λ (b : Bool) (d : Drive). level_of_drive (source_level c) (cond b Soft d)) gates (other_drive remaining later o.1 (drive n) is.fits one.0 other) in
              (more, omega (arith, level))
        ]
      where
        earlier : List OutputAt
        earlier = all_outputs (before cut i) blif facts

        o : OutputOn n
        o = plain_output cut blif facts i p m step n lt plain

        one : (one : OutputAt) × Among (all_outputs (before cut i) blif facts) one × (one.pin.net.0 ≡ out.pin.net.0) × (settled (before cut i) blif facts one ≡ out.pin)
        one = pin_before out on

        net : one.0.pin.net.0 ≡ o.1.pin.net.0
        net = one.2 ∙ same ∙ sym o.5

        other : Among (others_at later o.1) one.0
        other = other_there o.1 one.0 (o.1.output, o.3) one.1 net

    -- two that are one net are exposed, with one drive
    one_net : (first second : ℕ) → first < base → second < base → IsPlain k.circuit first → IsPlain k.circuit second → at first ≡ at second
        → (first ≡ second) ⊎ ((exposed first ≡ true) × (exposed second ≡ true) × (drive first ≡ drive second))
    one_net first second a b one other same =
        elim (cases_Bool (y.1.output == x.1.output)) [
          | inl e ↦
              let port = one_at (output_ports k) x.1.output x.0 y.0 x.2 (subst (λ (j : ℕ). At (output_ports k) j y.0) (eqb-true y.1.output x.1.output e) y.2) in
              inl (sym x.4 ∙ ap (λ (q : CellPort). q.net) port ∙ y.4)
          | inr e ↦
              let apart = and_right (y.1.instance == x.1.instance) (y.1.output == x.1.output) e in
              let there = other_at remaining later x.1 y.1 (output_there y.1 (y.1.output, y.3)) (y.5 ∙ sym same ∙ sym x.5) apart in
              elim (cases_Bool (exposed first)) [
                | inr none_of ↦ absurd (no_other_at remaining later x.1 y.1 (is_alone first x none_of) there)
                | inl more ↦ elim (cases_Bool (exposed second)) [
                  | inr none_of ↦
                      let back = and_right (x.1.instance == y.1.instance) (x.1.output == y.1.output) (not_same x.1.output y.1.output (λ s. false≢true (sym e ∙ eq-eqb y.1.output x.1.output (sym s)))) in
                      absurd (no_other_at remaining later y.1 x.1 (is_alone second y none_of)
                      (other_at remaining later y.1 x.1 (output_there x.1 (x.1.output, x.3)) (x.5 ∙ same ∙ sym y.5) back))
                  | inl both ↦
                      let drives = sym (other_drive remaining later x.1 (drive first) (is_exposed first x more).fits y.1 there) ∙ (is_exposed second y both).told in
                      inr (more, both, ap (level_of_drive 0) drives)
                ]
              ]
        ]
      where
        x : OutputOn first
        x = plain_output cut blif facts i p m step first a one

        y : OutputOn second
        y = plain_output cut blif facts i p m step second b other

        not_same : (k l : ℕ) → (k ≡ l → ⊥) → (k == l) ≡ false
        not_same k l ne = false_from_ne_true (k == l) (λ e. ne (eqb-true k l e))

    pub ports : HasPlacedPorts k.circuit c at base exposed drive
    ports = record {
      exposed_plain = λ n e.
          let port = exposure.ports n e in
          subst (λ (x : ℕ). IsPlain k.circuit x) port.2 (output_plain cut blif facts i p m step port.0 port.1).1;
      channels = channel_at;
      plain = λ n lt plain.
          let out = plain_output cut blif facts i p m step n lt plain in
          let known = (may cut blif facts i p m step).plain out.1 (out.1.output, out.3) in
          subst (λ (x : ℕ). IsPlain c x) out.5 (plain_with (before cut i) (with_one (before cut i) i) blif facts c circuit refl out.1.pin.net.0 known.0);
      others = device_at;
      pins = pin_at_net;
      pins_plain = λ out on. let one = pin_before out on in subst (λ (x : ℕ). IsPlain c x) one.2 (earlier_plain one.0 one.1);
      unheld = λ n lt plain held.
          let out = plain_output cut blif facts i p m step n lt plain in
          let known = (may cut blif facts i p m step).plain out.1 (out.1.output, out.3) in
          known.1 (held_with (before cut i) (with_one (before cut i) i) blif facts c circuit refl out.1.pin.net.0 (subst (λ (x : ℕ). IsHeld c x) (sym out.5) held));
      apart = one_net;
    }

  -- ---- the whole

  pub shows : ShowsInside t p.at depth front back c
  shows = cut_shows_inside (before cut i) blif facts c i p.at depth front back step.netlist.design split (λ j e. ltb-true j i (and_parts (cut.choice j) (nat_lt j i) e).1) (free cut blif facts i p m step) circuit

  pub placed : (exposed : ℕ → Bool) (drive : ℕ → ℕ) → AreExposed cut blif facts i p m exposed drive → IsPlaced k.circuit c at exposed drive
  placed exposed drive exposure =
      instance_is_placed t k.pairing i p.at depth front back c exposed drive step.netlist.design step.netlist.ordered step.netlist.there step.netlist.ties split
      (none cut blif facts i p m step) step.roles (no_holds cut blif facts i p m step) shows (ports exposed drive exposure)
