-- Numbers, levels and sizes of the circuits of a chain are in range.
use Rattle.std.proofs.Common.{◌≡◌, ℕ, zero, suc, ◌<◌, Bool, true, false, not, cond, List, [], ◌∷◌, map, length, Option, Some, None, refl, ap, sym, ◌∙◌, subst}
use Rattle.std.specs.Prelude.{All, drop, option_map}
use Rattle.std.proofs.lemmas.Bool.{false≢true}
use Rattle.std.proofs.lemmas.Option.{none-some, same_Some, slice_get_within}
use Rattle.blif_eval.proofs.Drivers.{interface_below}
use Rattle.checked_chain.proofs.ChoiceLaws.{numbered_at}
use Rattle.checked_chain.proofs.InstanceLaws.{instances_move}
use Rattle.checked_chain.specs.Holds.{IsEndShown}
use Rattle.placed_cells.proofs.ListLaws.{zip_right}
use Rattle.replaced_instances.proofs.StepInstances.{front_of}
use Rattle.replaced_instances.specs.Steps.{compared_at}
use Rattle.substitution_laws.proofs.ChosenLaws.{chosen_instances_are_steps, tried_steps_are_chosen}
use Rattle.substitution_laws.proofs.DriveRanges.{told_in_range, flat_source}
use Rattle.substitution_laws.proofs.EndsLaws.{tried_ends_are_shown}
use Rattle.substitution_laws.proofs.WholeCells.{whole_chosen}
use Rattle.substitution_laws.specs.Chosen.{IsTrial}
use Rattle.formed_cells.proofs.FormedLaws.{supported_cells_are_formed}
use Rattle.replaced_instances.proofs.StepPlaced.{plain_with}
use Rattle.formed_cells.specs.Formed.{IsFormed}
use Rattle.substitution_laws.proofs.FormedCells.{formed_cell}
use Rattle.substitution_laws.specs.Wholes.{CircuitsHaveRanges, CutsHaveRanges, IsFormedCut, TrialsAreWired}
use Rattle.vrt_model.proofs.Filtered.{filter_among}
use Rattle.vrt_model.proofs.Lists.{among_filter_map, at_there, filter_map_among, map_among}
use Rattle.vrt_model.proofs.Members.{all_among, all_by, among_flat_map, among_later, among_map, flat_map_among}
use Rattle.vrt_model.proofs.Scales.{same_device_level, same_hold_size}
use Rattle.vrt_model.specs.Assignment.{Tied}
use Rattle.vrt_model.specs.Checked.{IsCircuitWith, before, with_one}
use Rattle.vrt_model.specs.CheckedParts.{checked_devices, moved_end}
use Rattle.vrt_model.specs.Circuits.{IsCircuit, IsDevice, IsDrive, IsEnd, IsHold, IsNet, IsWhole}
use Rattle.vrt_model.specs.Comparison.{CellPort, Comparison, cell_at, input_signal, is_observed, output_signal, ports_of}
use Rattle.vrt_model.specs.Cut.{Cut, NumberedPlace, is_left_out, is_whole, moved_instance, numbered_places, shown, whole_places}
use Rattle.vrt_model.specs.FlatCircuit.{flat_circuit_of, flat_device, flat_devices, flat_holds, flat_instance, flat_instances, net_id}
use Rattle.vrt_model.specs.FlatModels.{IsFlatModel}
use Rattle.vrt_model.specs.Known.{IsPlain}
use Rattle.vrt_model.specs.Lists.{Among, At}
use Rattle.vrt_model.specs.Unrolled.{Place, Top, all_places}
use Rattle.vrt_model.specs.PairedPorts.{Model, paired_model}
use Rattle.vrt_model.specs.WholeInstances.{IsWholeAt, OutputAt, Pin, all_outputs, input_pins, meets_gates_only, outputs_of_place, pins_from, pins_of, settled_drive}
use Rattle.vrt_model.specs.declared.blif.Blif.{Blif}
use Rattle.vrt_model.specs.declared.circuit.Circuit.{Circuit}
use Rattle.vrt_model.specs.declared.circuit.Device.{Device}
use Rattle.vrt_model.specs.declared.circuit.FlatInstance.{FlatInstance}
use Rattle.vrt_model.specs.declared.circuit.FlatNet.{FlatNet}
use Rattle.vrt_model.specs.declared.circuit.Hold.{Hold}
use Rattle.vrt_model.specs.declared.circuit.HoldEnd.{HoldEnd}
use Rattle.vrt_model.specs.declared.circuit.HoldEnd.TheVariants.{Own, Latch}
use Rattle.vrt_model.specs.declared.flat_model.FlatModel.{FlatModel}
use Rattle.vrt_model.specs.declared.ids.Net.{Net}
use Rattle.vrt_model.specs.declared.pairing.ClockedSignal.{ClockedSignal}
use Rattle.vrt_model.specs.declared.whole.CellFacts.{CellFacts}
use Rattle.vrt_model.specs.declared.whole.Drive.{Drive}
use Rattle.vrt_model.specs.declared.whole.Drive.TheVariants.{Soft, Level}
use Rattle.vrt_model.specs.declared.whole.Link.{Link}
use Rattle.vrt_model.specs.declared.whole.Whole.{Whole}
use Rattle.vrt_model.specs.declared.whole.WholePin.{WholePin}
use Rattle.whole_ranks.proofs.PlaceLaws.{input_pin_of, made, made_is, output_pin}

-- a drive in range is so in each circuit with the same source level, and so is it where it is settled
settled_in_range : (b : Bool) (c flat : Circuit) (d : Drive) → flat.source ≡ c.source → IsDrive flat d → IsDrive c (cond b Soft d)
settled_in_range true c flat d same is = tt
settled_in_range false c flat Soft same is = tt
settled_in_range false c flat (Level level) same is = same_device_level flat c same level is

-- a device that is shown is one of the flat circuit
pub device_flat : (cut : Cut) (d : Device) → Among (checked_devices cut) d → Among (flat_devices cut.top) d
device_flat cut d on =
    let t = cut.top in
    let from = among_flat_map (λ (p : NumberedPlace). map (flat_device t p.at) (cell_at t.design p.at.cell).devices) (shown cut) d on in
    let kept = filter_among (λ (p : NumberedPlace). not (is_left_out cut p)) (numbered_places t) from.0 from.1 in
    flat_map_among (λ (at : Place). map (flat_device t at) (cell_at t.design at.cell).devices) (all_places t) from.0.at d (kept.0.0, (numbered_at t kept.0.0 from.0 kept.0.1).1) from.2

module _ (cut : Cut) (blif : Blif) (facts : List CellFacts) (c : Circuit) (h : IsFormedCut cut blif facts) (circuit : IsCircuitWith cut blif facts c) where
  abbrev t : Top
  t = cut.top

  same_level : (flat_circuit_of t).source ≡ c.source
  same_level = flat_source t ∙ sym circuit.source

  in_range : (net : Net) → IsNet (flat_circuit_of t) net → IsNet c net
  unfolding flat_circuit_of
  in_range net lt = subst (λ (nets : List FlatNet). net.0 < length nets) (sym circuit.nets) lt

  device_in_range : (d : Device) → Among c.devices d → IsDevice c d
  unfolding flat_circuit_of
  device_in_range d on =
      let is = all_among (IsDevice (flat_circuit_of t)) (flat_devices t) d h.flat.devices (device_flat cut d (subst (λ (ds : List Device). Among ds d) circuit.devices on)) in
      record { gate = in_range d.gate is.gate; left = in_range d.left is.left; right = in_range d.right is.right; level = same_device_level (flat_circuit_of t) c same_level d.level is.level }

  end_in_range : (e : HoldEnd) → IsEnd (flat_circuit_of t) e → IsEndShown cut e → IsEnd c (moved_end cut e)
  unfolding flat_circuit_of
  end_in_range (Own net) is there = in_range net is
  end_in_range (Latch None element) is there = tt
  end_in_range (Latch (Some i) element) is there =
      let x = at_there (flat_instances t) i is in
      let here : At c.instances (moved_instance cut i) x.0 = subst (λ (xs : List FlatInstance). At xs (moved_instance cut i) x.0) (sym circuit.instances) (instances_move cut i there ∙ x.1) in
      slice_get_within c.instances (moved_instance cut i) x.0 here

  hold_in_range : (g : Hold) → Among c.holds g → IsHold c g
  unfolding flat_circuit_of
  hold_in_range g on =
      let moved : Hold → Hold = λ (x : Hold). record x { end = moved_end cut x.end } in
      let from = among_map moved (flat_holds t) g (subst (λ (gs : List Hold). Among gs g) circuit.holds on) in
      let is = all_among (IsHold (flat_circuit_of t)) (flat_holds t) from.0 h.flat.holds from.1 in
      subst (IsHold c) from.2 (record { net = in_range from.0.net is.net; size = same_hold_size (flat_circuit_of t) c same_level from.0.size is.size; end = end_in_range from.0.end is.end (h.ends from.0 from.1) })

  -- the nets of ports are in range
  port_in_range : (r : Place) (j : ℕ) (port : ℕ) → At (all_places t) j r → Among (drop 1 (all_places t)) r → Among r.ports port → IsNet c (net_id port)
  unfolding flat_circuit_of
  port_in_range r j port here behind on =
      let instance = all_among (λ (i : FlatInstance). All (IsNet (flat_circuit_of t)) i.ports) (flat_instances t) (flat_instance r) h.flat.instances (map_among flat_instance (drop 1 (all_places t)) r behind) in
      in_range (net_id port) (all_among (IsNet (flat_circuit_of t)) (map net_id r.ports) (net_id port) instance (map_among net_id r.ports port on))

-- ---- pins

-- a pin is that of the port at its place, at a net that is listed
pin_parts : (ports : List CellPort) (nets : List ℕ) (i : ℕ) (pin : Pin) → At (pins_from ports nets) i pin → At ports i pin.port × (x : ℕ) × Among nets x × (net_id x ≡ pin.net)
pin_parts [] nets i pin e = absurd (none-some pin e)
pin_parts (port ∷ ports) [] i pin e = absurd (none-some pin e)
pin_parts (port ∷ ports) (x ∷ nets) zero pin e =
    let one : Pin = record { port = port; net = net_id x } in
    let same : one ≡ pin = same_Some one pin e in
    (ap (λ (y : Pin). Some y.port) same, x, (0, refl), ap (λ (y : Pin). y.net) same)
pin_parts (port ∷ ports) (x ∷ nets) (suc i) pin e =
    let more = pin_parts ports nets i pin e in
    (more.0, more.1, among_later x nets more.1 more.2, more.3)

-- an input pin is soft
input_soft : (q : Comparison) (at : Place) (pin : WholePin) → Among (input_pins q at) pin → pin.drive ≡ Soft
input_soft q at pin on =
    let from = among_filter_map (λ (p : Pin). option_map (λ (s : ℕ). let one : WholePin = record { net = p.net; signal = s; drive = Soft; observed = is_observed q 0 p.port.net } in one) (input_signal p.port.role)) (pins_of q at) pin on in
    by_signal from.0 (input_signal from.0.port.role) from.2
  where
    by_signal : (p : Pin) (o : Option ℕ) → option_map (λ (s : ℕ). let one : WholePin = record { net = p.net; signal = s; drive = Soft; observed = is_observed q 0 p.port.net } in one) o ≡ Some pin → pin.drive ≡ Soft
    by_signal p None e = absurd (none-some pin e)
    by_signal p (Some s) e = ap (λ (x : WholePin). x.drive) (sym (same_Some (record { net = p.net; signal = s; drive = Soft; observed = is_observed q 0 p.port.net }) pin e))

drive_in_range : (c : Circuit) (d : Drive) → d ≡ Soft → IsDrive c d
drive_in_range c d e = subst (IsDrive c) (sym e) tt

module _ (cut : Cut) (blif : Blif) (facts : List CellFacts) (c : Circuit) (h : IsFormedCut cut blif facts) (circuit : IsCircuitWith cut blif facts c)
    (i : ℕ) (p : NumberedPlace) (place : At (all_places cut.top) (suc i) p.at) (m : ℕ) (paired : paired_model cut.top.design blif cut.top.rules p.at.cell ≡ Model m)
    (listed : Among (whole_places cut) p) (formed : IsFormed (compared_at cut.top blif p m)) (w : Whole) (on : Among c.wholes w) (whole : IsWholeAt cut blif facts p w) where
  abbrev q : Comparison
  q = compared_at cut.top blif p m

  abbrev below : ℕ → Type 0
  below s = s < length q.model.signals

  pin_net : (pin : Pin) → Among (pins_of q p.at) pin → IsNet c pin.net
  pin_net pin there =
      let parts = pin_parts (ports_of q) p.at.ports there.0 pin there.1 in
      subst (IsNet c) parts.3 (port_in_range cut blif facts c h circuit p.at (suc i) parts.1 place (i, front_of (all_places cut.top) i p.at place) parts.2)

  input_below_it : (pin : Pin) (s : ℕ) → Among (pins_of q p.at) pin → input_signal pin.port.role ≡ Some s → below s
  input_below_it pin s there e =
      let parts = pin_parts (ports_of q) p.at.ports there.0 pin there.1 in
      let tie : CellPort → Option Tied = λ x. option_map (λ (signal : ℕ). let tied : Tied = record { net = x.net; signal = signal } in tied) (input_signal x.role) in
      let one : Tied = record { net = pin.port.net; signal = s } in
      let made : tie pin.port ≡ Some one = ap (option_map (λ (signal : ℕ). let tied : Tied = record { net = pin.port.net; signal = signal } in tied)) e in
      interface_below q.model formed.model s (formed.signals.tied s (one, filter_map_among tie (ports_of q) there.0 pin.port one parts.0 made, refl))

  output_below_it : (pin : Pin) (s : ℕ) → Among (pins_of q p.at) pin → output_signal pin.port.role ≡ Some s → below s
  output_below_it pin s there e = let parts = pin_parts (ports_of q) p.at.ports there.0 pin there.1 in (formed.signals.outputs there.0 pin.port s (parts.0, e)).0

  made_whole : made cut blif facts p m w paired whole ≡ record w { links = [] }
  made_whole = made_is cut blif facts p m w paired whole

  input_in_range : (pin : WholePin) → Among w.inputs pin → IsNet c pin.net × below pin.signal × IsDrive c pin.drive
  input_in_range pin there =
      let from = input_pin_of cut blif facts p m w paired whole pin there in
      let inputs = subst (λ (pins : List WholePin). Among pins pin) (sym (ap (λ (x : Whole). x.inputs) made_whole)) there in (
        subst (IsNet c) from.2 (pin_net from.0 from.1),
        input_below_it from.0 pin.signal from.1 from.3,
        drive_in_range c pin.drive (input_soft q p.at pin inputs),
      )

  output_in_range : (pin : WholePin) → Among w.outputs pin → IsNet c pin.net × below pin.signal × IsDrive c pin.drive
  output_in_range pin there =
      let devices = checked_devices cut in
      let outputs = all_outputs cut blif facts in
      let from = output_pin cut blif facts p m w paired whole pin there in
      let settled : OutputAt → WholePin = λ o. settled_drive devices outputs o in
      let o = among_map settled (outputs_of_place cut.top blif facts p) pin (subst (λ (pins : List WholePin). Among pins pin) (sym (ap (λ (x : Whole). x.outputs) made_whole)) there) in
      let range = settled_in_range (meets_gates_only devices outputs o.0) c (flat_circuit_of cut.top) o.0.pin.drive (same_level cut blif facts c h circuit) (h.drives p o.0 listed o.1) in (
        subst (IsNet c) from.3 (pin_net from.0 from.1),
        output_below_it from.0 pin.signal from.1 from.2,
        subst (λ (x : WholePin). IsDrive c x.drive) o.2 range,
      )

  link_in_range : (link : Link) → Among w.links link → IsNet c link.from × (link.output < length w.outputs)
  link_in_range link there =
      let s = (whole.links m paired).sound link there in
      (subst (IsNet c) (sym s.9) (pin_net s.1 s.6), slice_get_within w.outputs link.output s.3 s.10)

  -- with the model of its cell
  abbrev same_model : q.model ≡ w.model
  same_model = ap (λ (x : Whole). x.model) made_whole

  pub whole_in_range : IsWhole c w
  whole_in_range =
      let count : length q.model.signals ≡ length w.model.signals = ap (λ (f : FlatModel). length f.signals) same_model in
      let low : (s : ℕ) → below s → s < length w.model.signals = λ s. subst (λ (x : ℕ). s < x) count in
      let clocked : q.pairing.clocked ≡ w.clocked = ap (λ (x : Whole). x.clocked) made_whole in
      record {
        model = subst IsFlatModel same_model formed.model;
        clocked =
            all_by (λ (s : ClockedSignal). s.signal < length w.model.signals) w.clocked
            (λ s there. low s.signal (interface_below q.model formed.model s.signal (formed.signals.clocked s.signal (s, subst (λ (ss : List ClockedSignal). Among ss s) (sym clocked) there, refl))));
        inputs =
            all_by (λ (pin : WholePin). IsNet c pin.net × (pin.signal < length w.model.signals) × IsDrive c pin.drive) w.inputs
            (λ pin there. let x = input_in_range pin there in (x.0, low pin.signal x.1, x.2));
        outputs =
            all_by (λ (pin : WholePin). IsNet c pin.net × (pin.signal < length w.model.signals) × IsDrive c pin.drive) w.outputs
            (λ pin there. let x = output_in_range pin there in (x.0, low pin.signal x.1, x.2));
        links = all_by (λ (link : Link). IsNet c link.from × (link.output < length w.outputs)) w.links link_in_range;
      }

pub cuts_have_ranges : CutsHaveRanges
cuts_have_ranges cut blif facts c h circuit = record {
  devices = all_by (IsDevice c) c.devices (device_in_range cut blif facts c h circuit);
  holds = all_by (IsHold c) c.holds (hold_in_range cut blif facts c h circuit);
  wholes =
      all_by (IsWhole c) c.wholes
      (λ w on.
      let from = zip_right (IsWholeAt cut blif facts) (whole_places cut) c.wholes w circuit.wholes on in
      let kept = filter_among (λ (o : NumberedPlace). is_whole cut.choice o.number) (numbered_places cut.top) from.0 from.1 in
      let at = numbered_at cut.top kept.0.0 from.0 kept.0.1 in
      by_place w on from.0 from.1 from.2 kept.0.0 at.1 (subst (λ (n : ℕ). is_whole cut.choice n ≡ true) at.0 kept.1));
}
  where
    by_place : (w : Whole) → Among c.wholes w → (p : NumberedPlace) → Among (whole_places cut) p → IsWholeAt cut blif facts p w
        → (n : ℕ) → At (all_places cut.top) n p.at → is_whole cut.choice n ≡ true → IsWhole c w
    by_place w on p listed whole zero place e = absurd (false≢true e)
    by_place w on p listed whole (suc i) place e =
        let cell = h.cells p listed in whole_in_range cut blif facts c h circuit i p place cell.0 cell.1 listed cell.2 w on whole

pub circuits_have_ranges : CircuitsHaveRanges
circuits_have_ranges cut blif facts n c h flat ends circuit =
    cuts_have_ranges (before cut n) blif facts c
    (record {
      flat = flat;
      cells = λ p on.
          (let is = whole_chosen cut n p on in
          let step = chosen_instances_are_steps cut blif facts is.0 p h is.1.place is.1.chosen in
          (step.0, step.1.paired, formed_cell cut blif facts p.at.cell step.0 h step.2));
      drives = λ p o on there.
          (let is = whole_chosen cut n p on in
          let step = chosen_instances_are_steps cut blif facts is.0 p h is.1.place is.1.chosen in
          told_in_range cut blif facts is.0 p step.0 step.1 (formed_cell cut blif facts p.at.cell step.0 h step.2) h.read.valid.some_phase (flat_circuit_of cut.top) (flat_source cut.top) o there);
      ends = ends;
    })
    circuit

-- ---- instances that are tried

module _ (cut : Cut) (blif : Blif) (facts : List CellFacts) (c : Circuit) (h : IsTrial cut blif facts) (circuit : IsCircuitWith cut blif facts c) where
  -- a place that is left whole is that of a chosen instance
  chosen_place : (p : NumberedPlace) → Among (whole_places cut) p → (i : ℕ) × At (numbered_places cut.top) (suc i) p × (cut.choice i ≡ true)
  chosen_place p on =
      let kept = filter_among (λ (o : NumberedPlace). is_whole cut.choice o.number) (numbered_places cut.top) p on in
      by_number kept.0.0 kept.0.1 (subst (λ (n : ℕ). is_whole cut.choice n ≡ true) (numbered_at cut.top kept.0.0 p kept.0.1).0 kept.1)
    where
      by_number : (n : ℕ) → At (numbered_places cut.top) n p → is_whole cut.choice n ≡ true → (i : ℕ) × At (numbered_places cut.top) (suc i) p × (cut.choice i ≡ true)
      by_number zero there e = absurd (false≢true e)
      by_number (suc i) there e = (i, there, e)

  formed_cut : IsCircuit (flat_circuit_of cut.top) → IsFormedCut cut blif facts
  formed_cut flat = record {
    flat = flat;
    cells = λ p on.
        (let is = chosen_place p on in
        let step = tried_steps_are_chosen cut blif facts is.0 p h is.1 is.2 in
        (step.0, step.1.paired, supported_cells_are_formed cut.top.design blif cut.top.rules p.at.cell step.0 h.read step.2));
    drives = λ p o on there.
        (let is = chosen_place p on in
        let step = tried_steps_are_chosen cut blif facts is.0 p h is.1 is.2 in
        told_in_range cut blif facts is.0 p step.0 step.1 (supported_cells_are_formed cut.top.design blif cut.top.rules p.at.cell step.0 h.read step.2) h.read.valid.some_phase (flat_circuit_of cut.top) (flat_source cut.top) o there);
    ends = tried_ends_are_shown cut blif facts h;
  }

  -- the outputs are at plain nets
  plain_outputs : (w : Whole) (pin : WholePin) → Among c.wholes w → Among w.outputs pin → IsPlain c pin.net.0
  plain_outputs w pin on there =
      let from = zip_right (IsWholeAt cut blif facts) (whole_places cut) c.wholes w circuit.wholes on in
      let is = chosen_place from.0 from.1 in
      let step = tried_steps_are_chosen cut blif facts is.0 from.0 h is.1 is.2 in
      let settled : OutputAt → WholePin = λ o. settled_drive (checked_devices cut) (all_outputs cut blif facts) o in
      let same = made_is cut blif facts from.0 step.0 w step.1.paired from.2 in
      let o = among_map settled (outputs_of_place cut.top blif facts from.0) pin (subst (λ (pins : List WholePin). Among pins pin) (sym (ap (λ (x : Whole). x.outputs) same)) there) in
      let may = (h.tried is.0 from.0 is.1 is.2).1 in
      let plain = plain_with cut (with_one (before cut is.0) is.0) blif facts c circuit refl o.0.pin.net.0 (may.1.plain o.0 o.1).0 in
      subst (λ (x : WholePin). IsPlain c x.net.0) o.2 plain

pub trials_are_wired : TrialsAreWired
trials_are_wired cut blif facts c h flat circuit = record {
  ranges = cuts_have_ranges cut blif facts c (formed_cut cut blif facts c h circuit flat) circuit;
  outputs = plain_outputs cut blif facts c h circuit;
}
