-- The pins and links of a whole instance at a place are those of its cell.
use Rattle.std.proofs.Common.{◌≡◌, ℕ, zero, suc, ◌+◌, ◌<◌, Bool, false, List, [], ◌∷◌, Option, Some, None, length, map, ap, subst, sym, refl, ◌∙◌, inl, inr}
use Rattle.std.specs.Prelude.{filter_map, option_map}
use Rattle.std.specs.List.{cons_option, enumerate_from}
use Rattle.std.proofs.lemmas.Option.{none-some, same_Some}
use Rattle.vrt_model.proofs.Lists.{among_filter_map}
use Rattle.vrt_model.proofs.Members.{among_later, among_map, at_none}
use Rattle.vrt_model.specs.Assignment.{Tied}
use Rattle.vrt_model.specs.CheckedParts.{checked_devices}
use Rattle.vrt_model.specs.Comparison.{CellPort, Comparison, input_signal, is_observed, output_signal, phase_at, ports_of, tied_inputs}
use Rattle.vrt_model.specs.Cut.{Cut, NumberedPlace}
use Rattle.vrt_model.specs.Determined.{IsLinkedTo}
use Rattle.vrt_model.specs.FlatCircuit.{net_id}
use Rattle.vrt_model.specs.Lists.{Among, At}
use Rattle.vrt_model.specs.PairedPorts.{Paired, Model, paired_model}
use Rattle.vrt_model.specs.Unrolled.{Place, path_text}
use Rattle.vrt_model.specs.Unsupported.{comparison_of}
use Rattle.vrt_model.specs.WholeInstances.{CoverArc, IsChain, IsWholeAt, OutputAt, Pin, all_outputs, drive_in, driven_pins, driven_pins_from, input_pins, outputs_of_place, pins_from, pins_of, settled_drive}
use Rattle.vrt_model.specs.declared.blif.Blif.{Blif}
use Rattle.vrt_model.specs.declared.whole.CellFacts.{CellFacts}
use Rattle.vrt_model.specs.declared.whole.Drive.TheVariants.{Soft}
use Rattle.vrt_model.specs.declared.whole.Whole.{Whole}
use Rattle.vrt_model.specs.declared.whole.WholePin.{WholePin}
use Rattle.whole_ranks.specs.WholeCells.{IsOutputAt, moved_tie}
use Rattle.whole_ranks.specs.WholePlaces.{ArePortsAt, WholePlacesStandForCells}

-- ---- pins

-- a port with its net
abbrev pin_at : (ℕ → ℕ) → CellPort → Pin
pin_at at port = record { port = port; net = net_id (at port.net) }

pins_are : (at : ℕ → ℕ) (ports : List CellPort) → pins_from ports (map (λ (p : CellPort). at p.net) ports) ≡ map (pin_at at) ports
pins_are at [] = refl
pins_are at (port ∷ ports) = ap (λ (ps : List Pin). pin_at at port ∷ ps) (pins_are at ports)

pins_at : (k : Comparison) (place : Place) (at : ℕ → ℕ) → ArePortsAt k place at → pins_of k place ≡ map (pin_at at) (ports_of k)
pins_at k place at e = ap (λ (nets : List ℕ). pins_from (ports_of k) nets) e ∙ pins_are at (ports_of k)

-- ---- inputs

abbrev tie_of : WholePin → Tied
tie_of p = record { net = p.net.0; signal = p.signal }

abbrev input_pin : (ℕ → Bool) → Pin → Option WholePin
input_pin seen p = option_map (λ (s : ℕ). let pin : WholePin = record { net = p.net; signal = s; drive = Soft; observed = seen p.port.net } in pin) (input_signal p.port.role)

abbrev input_tie : CellPort → Option Tied
input_tie p = option_map (λ (signal : ℕ). let tied : Tied = record { net = p.net; signal = signal } in tied) (input_signal p.role)

-- the ties of the input pins are those of the cell at other nets
ties_are : (seen : ℕ → Bool) (at : ℕ → ℕ) (ports : List CellPort) → map tie_of (filter_map (input_pin seen) (map (pin_at at) ports)) ≡ map (moved_tie at) (filter_map input_tie ports)
ties_are seen at [] = refl
ties_are seen at (port ∷ ports) = by_signal (input_signal port.role) (ties_are seen at ports)
  where
    by_signal : (o : Option ℕ) → map tie_of (filter_map (input_pin seen) (map (pin_at at) ports)) ≡ map (moved_tie at) (filter_map input_tie ports)
        → map tie_of (cons_option (option_map (λ (s : ℕ). let pin : WholePin = record { net = net_id (at port.net); signal = s; drive = Soft; observed = seen port.net } in pin) o)
        (filter_map (input_pin seen) (map (pin_at at) ports)))
        ≡ map (moved_tie at) (cons_option (option_map (λ (signal : ℕ). let tied : Tied = record { net = port.net; signal = signal } in tied) o) (filter_map input_tie ports))
    by_signal None rest = rest
    by_signal (Some s) rest = ap (λ (ts : List Tied). moved_tie at (record { net = port.net; signal = s }) ∷ ts) rest

-- an input pin is that of a port
input_of_port : (seen : ℕ → Bool) (pins : List Pin) (pin : WholePin) → Among (filter_map (input_pin seen) pins) pin
    → (p : Pin) × Among pins p × (p.net ≡ pin.net) × (input_signal p.port.role ≡ Some pin.signal)
input_of_port seen pins pin m =
    let from = among_filter_map (input_pin seen) pins pin m in
    let found = by_signal from.0 (input_signal from.0.port.role) from.2 in
    (from.0, from.1, found.0, found.1)
  where
    by_signal : (p : Pin) (o : Option ℕ) → option_map (λ (s : ℕ). let one : WholePin = record { net = p.net; signal = s; drive = Soft; observed = seen p.port.net } in one) o ≡ Some pin
        → (p.net ≡ pin.net) × (o ≡ Some pin.signal)
    by_signal p None e = absurd (none-some pin e)
    by_signal p (Some s) e =
        let one : WholePin = record { net = p.net; signal = s; drive = Soft; observed = seen p.port.net } in
        let same : one ≡ pin = same_Some one pin e in
        (ap (λ (x : WholePin). x.net) same, ap (λ (x : WholePin). Some x.signal) same)

-- ---- outputs

abbrev pub IsOutputOf : List Pin → WholePin → Type 0
IsOutputOf pins pin = (p : Pin) × Among pins p × (output_signal p.port.role ≡ Some pin.signal) × (p.net ≡ pin.net)

later : (p : Pin) (pins : List Pin) (pin : WholePin) → IsOutputOf pins pin → IsOutputOf (p ∷ pins) pin
later p pins pin found = (found.0, among_later p pins found.0 found.1, found.2, found.3)

-- an output pin is that of a port
output_of_port : (facts : List CellFacts) (cell j : ℕ) (pins : List Pin) (pin : WholePin) → Among (driven_pins_from facts cell j pins) pin → IsOutputOf pins pin
output_of_port facts cell j [] pin m = absurd (at_none m.0 pin m.1)
output_of_port facts cell j (p ∷ pins) pin m =
    by_signal (output_signal p.port.role) refl m (λ i n. output_of_port facts cell i pins pin n)
  where
    by_signal : (o : Option ℕ) → output_signal p.port.role ≡ o
        → Among (elim o [
          | None ↦ driven_pins_from facts cell j pins
          | Some s ↦ record { net = p.net; signal = s; drive = drive_in facts cell j; observed = false } ∷ driven_pins_from facts cell (suc j) pins
        ]) pin
        → ((i : ℕ) → Among (driven_pins_from facts cell i pins) pin → IsOutputOf pins pin) → IsOutputOf (p ∷ pins) pin
    by_signal None e n rest = later p pins pin (rest j n)
    by_signal (Some s) e (zero, here) rest =
        let one : WholePin = record { net = p.net; signal = s; drive = drive_in facts cell j; observed = false } in
        (p, (0, refl), e ∙ ap (λ (x : WholePin). Some x.signal) (same_Some one pin here), ap (λ (x : WholePin). x.net) (same_Some one pin here))
    by_signal (Some s) e (suc i, there) rest = later p pins pin (rest (suc j) (i, there))

among_enumerated : {X : Type 0} (n : ℕ) (xs : List X) (q : ℕ × X) → Among (enumerate_from n xs) q → Among xs q.1
among_enumerated n [] q m = absurd (at_none m.0 q m.1)
among_enumerated n (x ∷ xs) q (zero, e) = (0, ap (λ (p : ℕ × _). Some p.1) (same_Some (n, x) q e))
among_enumerated n (x ∷ xs) q (suc i, e) = among_later x xs q.1 (among_enumerated (n + 1) xs q (i, e))

-- ---- the instance

-- the output pins and the instance by what its cell pairs with
abbrev outputs_by : Cut → Blif → List CellFacts → NumberedPlace → Paired → List OutputAt
outputs_by cut blif facts p q =
    elim q [
      | Model m ↦
          map (λ (q : ℕ × WholePin). let one : OutputAt = record { instance = p.number; output = q.0; pin = q.1 } in one)
          (enumerate_from 0 (driven_pins facts (comparison_of cut.top.design blif cut.top.rules p.at.cell m) p.at))
      | _ ↦ []
    ]

abbrev pub whole_by : Cut → Blif → List CellFacts → NumberedPlace → Paired → Option Whole
whole_by cut blif facts p q =
    elim q [
      | Model m ↦
          let k = comparison_of cut.top.design blif cut.top.rules p.at.cell m in
          Some (record {
            path = path_text p.at.path;
            cell = p.at.cell;
            model = k.model;
            clocked = k.pairing.clocked;
            inputs = input_pins k p.at;
            outputs = map (settled_drive (checked_devices cut) (all_outputs cut blif facts)) (outputs_of_place cut.top blif facts p);
            links = [];
          })
      | _ ↦ None
    ]

module _ (cut : Cut) (blif : Blif) (facts : List CellFacts) (p : NumberedPlace) (m : ℕ) (w : Whole)
    (paired : paired_model cut.top.design blif cut.top.rules p.at.cell ≡ Model m) (is : IsWholeAt cut blif facts p w) where
  abbrev k : Comparison
  k = comparison_of cut.top.design blif cut.top.rules p.at.cell m

  abbrev pub made : Whole
  made = record {
    path = path_text p.at.path;
    cell = p.at.cell;
    model = k.model;
    clocked = k.pairing.clocked;
    inputs = input_pins k p.at;
    outputs = map (settled_drive (checked_devices cut) (all_outputs cut blif facts)) (outputs_of_place cut.top blif facts p);
    links = [];
  }

  pub made_is : made ≡ record w { links = [] }
  made_is = same_Some made (record w { links = [] }) (sym (ap (whole_by cut blif facts p) paired) ∙ is.whole)

  outputs_are : outputs_of_place cut.top blif facts p ≡ outputs_by cut blif facts p (Model m)
  outputs_are = ap (outputs_by cut blif facts p) paired

  abbrev settled : OutputAt → WholePin
  settled o = settled_drive (checked_devices cut) (all_outputs cut blif facts) o

  -- an output of the instance is an output of the cell
  pin_of_output : (o : OutputAt) → Among (outputs_of_place cut.top blif facts p) o → IsOutputOf (pins_of k p.at) o.pin
  pin_of_output o n =
      from (among_map (λ (q : ℕ × WholePin). let one : OutputAt = record { instance = p.number; output = q.0; pin = q.1 } in one)
      (enumerate_from 0 (driven_pins facts k p.at)) o (subst (λ (os : List OutputAt). Among os o) outputs_are n))
    where
      from : (q : ℕ × WholePin) × Among (enumerate_from 0 (driven_pins facts k p.at)) q × ((let one : OutputAt = record { instance = p.number; output = q.0; pin = q.1 } in one) ≡ o)
          → IsOutputOf (pins_of k p.at) o.pin
      from (q, m, e) =
          subst (λ (x : OutputAt). IsOutputOf (pins_of k p.at) x.pin) e
          (output_of_port facts p.at.cell 0 (pins_of k p.at) q.1 (among_enumerated 0 (driven_pins facts k p.at) q m))

  pub output_pin : (pin : WholePin) → Among w.outputs pin → IsOutputOf (pins_of k p.at) pin
  output_pin pin n =
      from (among_map settled (outputs_of_place cut.top blif facts p) pin (subst (λ (ps : List WholePin). Among ps pin) (sym (ap (λ (x : Whole). x.outputs) made_is)) n))
    where
      from : (o : OutputAt) × Among (outputs_of_place cut.top blif facts p) o × (settled o ≡ pin) → IsOutputOf (pins_of k p.at) pin
      from (o, m, e) = subst (IsOutputOf (pins_of k p.at)) e (pin_of_output o m)

  pub input_pin_of : (pin : WholePin) → Among w.inputs pin → (q : Pin) × Among (pins_of k p.at) q × (q.net ≡ pin.net) × (input_signal q.port.role ≡ Some pin.signal)
  input_pin_of pin n =
      input_of_port (is_observed k 0) (pins_of k p.at) pin (subst (λ (ps : List WholePin). Among ps pin) (sym (ap (λ (x : Whole). x.inputs) made_is)) n)

  module _ (phase : ℕ) (within : phase < length cut.top.rules.phases) (at : ℕ → ℕ) (ports : ArePortsAt k p.at at) where
    tied_is : map tie_of w.inputs ≡ map (moved_tie at) (tied_inputs k)
    tied_is =
        sym (ap (λ (x : Whole). map tie_of x.inputs) made_is)
        ∙ ap (λ (ps : List Pin). map tie_of (filter_map (input_pin (is_observed k 0)) ps)) (pins_at k p.at at ports)
        ∙ ties_are (is_observed k 0) at (ports_of k)

    output_is : (pin : WholePin) → Among w.outputs pin → (place : ℕ) × (port : CellPort) × IsOutputAt k place port pin.signal
    output_is pin n =
        let found = output_pin pin n in
        let from = among_map (pin_at at) (ports_of k) found.0 (subst (λ (ps : List Pin). Among ps found.0) (pins_at k p.at at ports) found.1) in
        (from.1.0, from.0, (from.1.1, ap (λ (x : Pin). output_signal x.port.role) from.2 ∙ found.2))

    linked : (input pin : WholePin) (i : ℕ) → Among w.inputs input → At w.outputs i pin → IsChain (CoverArc k.model) input.signal pin.signal → IsLinkedTo (phase_at k.rules phase) w input i
    linked input pin i n e chain =
        let from = input_pin_of input n in
        let to = output_pin pin (i, e) in
        let full = (is.links m paired).full phase from.0 to.0 pin i within from.1 to.1 (inl (input.signal, pin.signal, inl (from.3, to.2, inr chain))) e to.2 in
        (full.0, full.1, full.2, full.3 ∙ from.2, full.4)

pub whole_places_stand_for_cells : WholePlacesStandForCells
whole_places_stand_for_cells cut blif facts p m phase c observed at w paired is within ports plain quiet = record {
  model = sym (ap (λ (x : Whole). x.model) (made_is cut blif facts p m w paired is));
  clocked = sym (ap (λ (x : Whole). x.clocked) (made_is cut blif facts p m w paired is));
  tied = tied_is cut blif facts p m w paired is phase within at ports;
  outputs = output_is cut blif facts p m w paired is phase within at ports;
  plain = plain;
  links = linked cut blif facts p m w paired is phase within at ports;
  quiet = quiet;
}
