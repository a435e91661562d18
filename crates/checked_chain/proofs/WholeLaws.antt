-- A whole instance in circuits with different choices: only the drives of its outputs may differ.
use Rattle.std.proofs.Common.{◌≡◌, ℕ, Bool, List, [], map, Option, Some, None, subst, sym, refl, ◌∙◌, ap}
use Rattle.std.proofs.lemmas.Option.{none-some}
use Rattle.vrt_model.proofs.Lists.{at_map, map_at}
use Rattle.vrt_model.specs.CheckedParts.{checked_devices}
use Rattle.vrt_model.specs.Comparison.{Comparison}
use Rattle.vrt_model.specs.Cut.{Cut, NumberedPlace}
use Rattle.vrt_model.specs.PairedPorts.{Paired, Model, Skipped, Missing, paired_model}
use Rattle.vrt_model.specs.Unrolled.{Top, path_text}
use Rattle.vrt_model.specs.Unsupported.{comparison_of}
use Rattle.vrt_model.specs.WholeInstances.{HasLinks, IsWholeAt, OutputAt, Pin, all_outputs, input_pins, outputs_of_place, pins_of, settled_drive}
use Rattle.vrt_model.specs.declared.blif.Blif.{Blif}
use Rattle.vrt_model.specs.declared.circuit.Device.{Device}
use Rattle.vrt_model.specs.declared.whole.CellFacts.{CellFacts}
use Rattle.vrt_model.specs.declared.whole.Link.{Link}
use Rattle.vrt_model.specs.declared.whole.Whole.{Whole}
use Rattle.vrt_model.specs.declared.whole.WholePin.{WholePin}

-- ---- one instance

-- an instance where these devices and these outputs are there
abbrev pub whole_beside : Top → Blif → List CellFacts → NumberedPlace → List Device → List OutputAt → Paired → Option Whole
whole_beside t blif facts p devices outputs paired =
    elim paired [
      | Model m ↦
          let k = comparison_of t.design blif t.rules p.at.cell m in
          Some (record {
            path = path_text p.at.path;
            cell = p.at.cell;
            model = k.model;
            clocked = k.pairing.clocked;
            inputs = input_pins k p.at;
            outputs = map (settled_drive devices outputs) (outputs_of_place t blif facts p);
            links = [];
          })
      | _ ↦ None
    ]

-- the same instance with other outputs
abbrev pub with_outputs : Whole → List WholePin → Whole
with_outputs w pins = record w { outputs = pins }

abbrev pub unlinked : Whole → Whole
unlinked w = record w { links = [] }

module _ (t : Top) (blif : Blif) (facts : List CellFacts) (p : NumberedPlace) (devices others : List Device) (outputs beside : List OutputAt) where
  abbrev pub pins : List WholePin
  pins = map (settled_drive devices outputs) (outputs_of_place t blif facts p)

  abbrev pub other_pins : List WholePin
  other_pins = map (settled_drive others beside) (outputs_of_place t blif facts p)

  pub outputs_are : (paired : Paired) (w : Whole) → whole_beside t blif facts p devices outputs paired ≡ Some (unlinked w) → w.outputs ≡ pins
  outputs_are (Model m) w e = sym (ap (λ (o : Option Whole). elim o [ None ↦ [] | Some x ↦ x.outputs ]) e)
  outputs_are Skipped w e = absurd (none-some (unlinked w) e)
  outputs_are Missing w e = absurd (none-some (unlinked w) e)

  pub whole_again : (paired : Paired) (w : Whole) → whole_beside t blif facts p devices outputs paired ≡ Some (unlinked w)
      → whole_beside t blif facts p others beside paired ≡ Some (unlinked (with_outputs w other_pins))
  whole_again (Model m) w e = ap (λ (o : Option Whole). elim o [ None ↦ None | Some x ↦ Some (with_outputs x other_pins) ]) e
  whole_again Skipped w e = absurd (none-some (unlinked w) e)
  whole_again Missing w e = absurd (none-some (unlinked w) e)

-- ---- its links

-- links do not depend on the drives of the outputs
pub links_again : (k : Comparison) (pins : List Pin) (f g : OutputAt → WholePin) (xs : List OutputAt) (links : List Link)
    → ((x : OutputAt) → (f x).signal ≡ (g x).signal) → HasLinks k pins (map f xs) links → HasLinks k pins (map g xs) links
links_again k of_cell f g xs links same h = record {
  sound = λ link m.
      let s = h.sound link m in
      let from = at_map f xs link.output s.3 s.10 in
      let signal : s.3.signal ≡ (g from.0).signal = sym (ap (λ (pin : WholePin). pin.signal) from.2) ∙ same from.0 in
      (s.0, s.1, s.2, g from.0, s.4, s.5, s.6, s.7, s.8, s.9, map_at g xs link.output from.0 from.1, s.11 ∙ ap (λ (n : ℕ). Some n) signal, s.12);
  full = λ phase from to pin at lt a b linked here signal.
      let x = at_map g xs at pin here in
      let told : pin.signal ≡ (f x.0).signal = sym (ap (λ (one : WholePin). one.signal) x.2) ∙ sym (same x.0) in
      h.full phase from to (f x.0) at lt a b linked (map_at f xs at x.0 x.1) (signal ∙ ap (λ (n : ℕ). Some n) told);
}

-- the instance at a place that is left whole, in a circuit with another choice
pub whole_elsewhere : (t : Top) (one other : ℕ → Bool) (blif : Blif) (facts : List CellFacts) (p : NumberedPlace) (w : Whole)
    → IsWholeAt (record { top = t; choice = one }) blif facts p w → (x : Whole) × IsWholeAt (record { top = t; choice = other }) blif facts p x
whole_elsewhere t one other blif facts p w h =
    let left : Cut = record { top = t; choice = one } in
    let right : Cut = record { top = t; choice = other } in
    let devices = checked_devices left in
    let others = checked_devices right in
    let outputs = all_outputs left blif facts in
    let beside = all_outputs right blif facts in
    let paired = paired_model t.design blif t.rules p.at.cell in
    let fresh = other_pins t blif facts p devices others outputs beside in (
      with_outputs w fresh,
      record {
        whole = whole_again t blif facts p devices others outputs beside paired w h.whole;
        links = λ m e.
            let k = comparison_of t.design blif t.rules p.at.cell m in
            links_again k (pins_of k p.at) (settled_drive devices outputs) (settled_drive others beside) (outputs_of_place t blif facts p) w.links (λ x. refl)
            (subst (λ (pins : List WholePin). HasLinks k (pins_of k p.at) pins w.links) (outputs_are t blif facts p devices others outputs beside paired w h.whole) (h.links m e));
      },
    )
