-- An instance as a whole one, by what the instances of its cell have in common.
use Rattle.std.proofs.Common.{◌≡◌, ℕ, List, [], ◌∷◌, map, Option, Some, None, ap, refl, subst, sym, ◌∙◌}
use Rattle.net_places.specs.Links.{Bare}
use Rattle.net_places.specs.declared.places.Place.{Place}
use Rattle.whole_circuits.proofs.EndLaws.{settled_pins_are}
use Rattle.whole_circuits.specs.Ends.{HasEnds, settled_by}
use Rattle.whole_circuits.specs.Pins.{IsAtPorts}
use Rattle.whole_circuits.specs.WholeCells.{IsPlacedWhole, IsWholeCell}
use Rattle.whole_circuits.specs.declared.ends.NetEnds.{NetEnds}
use Rattle.whole_circuits.specs.declared.whole_cell.WholeCell.{WholeCell}
use Rattle.vrt_model.specs.CheckedParts.{checked_devices}
use Rattle.vrt_model.specs.Comparison.{Comparison}
use Rattle.vrt_model.specs.Cut.{Cut, NumberedPlace, whole_places}
use Rattle.vrt_model.specs.FlatCircuit.{net_id}
use Rattle.vrt_model.specs.Lists.{Among}
use Rattle.vrt_model.specs.PairedPorts.{Model, Paired}
use Rattle.vrt_model.specs.Unrolled.{path_text}
use Rattle.vrt_model.specs.Unsupported.{comparison_of}
use Rattle.vrt_model.specs.WholeInstances.{HasLinks, IsWholeAt, OutputAt, all_outputs, driven_pins, input_pins, outputs_of_place, pins_of, settled_drive, whole_at}
use Rattle.vrt_model.specs.declared.blif.Blif.{Blif}
use Rattle.vrt_model.specs.declared.circuit.Circuit.{Circuit}
use Rattle.vrt_model.specs.declared.circuit.Device.{Device}
use Rattle.vrt_model.specs.declared.flat_model.FlatModel.{FlatModel}
use Rattle.vrt_model.specs.declared.ids.Net.{Net}
use Rattle.vrt_model.specs.declared.pairing.ClockedSignal.{ClockedSignal}
use Rattle.vrt_model.specs.declared.whole.CellFacts.{CellFacts}
use Rattle.vrt_model.specs.declared.whole.Whole.{Whole}
use Rattle.vrt_model.specs.declared.whole.WholePin.{WholePin}

-- ---- nets

same_nets : (nets : List Net) → nets ≡ map net_id (map (λ (n : Net). n.0) nets)
same_nets [] = refl
same_nets (n ∷ nets) = ap (λ (ns : List Net). n ∷ ns) (same_nets nets)

-- ---- the instance

module _ (cut : Cut) (blif : Blif) (facts : List CellFacts) (p : NumberedPlace) (own : WholeCell) (is : IsWholeCell cut.top blif facts p.at.cell own) (place : Place)
    (placed : IsPlacedWhole cut.top blif p place) where
  abbrev k : Comparison
  k = comparison_of cut.top.design blif cut.top.rules p.at.cell is.number

  pub at_ports : IsAtPorts k p.at own.ports.items place.ports
  at_ports = record {
    ports_are = is.has.ports;
    nets_are = same_nets place.ports ∙ ap (λ (b : Bare). map net_id b.ports) placed.shows;
    each = placed.tied is.number is.paired;
  }

  abbrev made : FlatModel → List ClockedSignal → List WholePin → List WholePin → Whole
  made model clocked inputs outputs = record { path = path_text p.at.path; cell = p.at.cell; model = model; clocked = clocked; inputs = inputs; outputs = outputs; links = [] }

  abbrev devices : List Device
  devices = checked_devices cut

  abbrev outputs : List OutputAt
  outputs = all_outputs cut blif facts

  abbrev whole_by : Paired → Option Whole
  whole_by paired =
      elim paired [
        | Model m ↦
            let j = comparison_of cut.top.design blif cut.top.rules p.at.cell m in
            Some (made j.model j.pairing.clocked (input_pins j p.at) (map (settled_drive devices outputs) (outputs_of_place cut.top blif facts p)))
        | _ ↦ None
      ]

  module _ (c : Circuit) (ends : NetEnds) (has : HasEnds cut blif facts c ends) (on : Among (whole_places cut) p) where
    abbrev pins : List WholePin
    pins = map (settled_by ends) (driven_pins facts k p.at)

    whole_is : whole_at cut blif facts p ≡ Some (made k.model k.pairing.clocked (input_pins k p.at) pins)
    whole_is =
        ap whole_by is.paired
        ∙ ap (λ (ps : List WholePin). Some (made k.model k.pairing.clocked (input_pins k p.at) ps)) (settled_pins_are cut blif facts c ends has p is.number on is.paired)

    pub whole_at_is : (w : Whole) → w.path ≡ place.path → w.cell ≡ place.cell → w.model ≡ own.model → w.clocked ≡ own.clocked → w.inputs ≡ input_pins k p.at
        → w.outputs ≡ pins → HasLinks k (pins_of k p.at) w.outputs w.links → IsWholeAt cut blif facts p w
    whole_at_is w path cell model clocked inputs pins_same links = record {
      whole = whole_is ∙ ap Some (sym (same w.path (path_text p.at.path) w.cell p.at.cell w.model k.model w.clocked k.pairing.clocked w.inputs (input_pins k p.at) w.outputs pins
          (path ∙ ap (λ (b : Bare). b.path) placed.shows) (cell ∙ ap (λ (b : Bare). b.cell) placed.shows) (model ∙ is.has.model) (clocked ∙ is.has.clocked) inputs pins_same));
      links = λ m paired. subst (λ (n : ℕ). HasLinks (comparison_of cut.top.design blif cut.top.rules p.at.cell n) (pins_of (comparison_of cut.top.design blif cut.top.rules p.at.cell n) p.at) w.outputs w.links)
          (one_model is.number m (sym is.paired ∙ paired)) links;
    }
      where
        same : (a b : List ℕ) (c d : ℕ) (e f : FlatModel) (g h : List ClockedSignal) (i j x y : List WholePin) → a ≡ b → c ≡ d → e ≡ f → g ≡ h → i ≡ j → x ≡ y
            → (let one : Whole = record { path = a; cell = c; model = e; clocked = g; inputs = i; outputs = x; links = [] } in one)
            ≡ (let one : Whole = record { path = b; cell = d; model = f; clocked = h; inputs = j; outputs = y; links = [] } in one)
        same a b c d e f g h i j x y p1 p2 p3 p4 p5 p6 = cc

        one_model : (m n : ℕ) → Model m ≡ Model n → m ≡ n
        one_model m n e = cc
