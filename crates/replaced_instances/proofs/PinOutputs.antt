-- The output pins of a circuit in which some instances are whole are, place by place, the outputs of these.
use Rattle.std.proofs.Common.{◌≡◌, ◌∷◌, ◌++◌, [], ℕ, List, map, refl, ap, ap₂, sym, ◌∙◌, subst}
use Rattle.std.specs.Prelude.{flat_map}
use Rattle.std.specs.List.{AllZip}
use Rattle.std.proofs.lemmas.List.{map-append}
use Rattle.checked_chain.proofs.WholeLaws.{outputs_are}
use Rattle.vrt_model.proofs.Lists.{at_map, map_at}
use Rattle.vrt_model.specs.Checked.{IsCircuitWith}
use Rattle.vrt_model.specs.CheckedParts.{checked_devices}
use Rattle.vrt_model.specs.Cut.{Cut, NumberedPlace, whole_places}
use Rattle.vrt_model.specs.Lists.{At}
use Rattle.vrt_model.specs.PairedPorts.{paired_model}
use Rattle.vrt_model.specs.State.{OutputPin, output_pins}
use Rattle.vrt_model.specs.WholeInstances.{IsWholeAt, OutputAt, all_outputs, outputs_of_place, settled_drive}
use Rattle.vrt_model.specs.declared.blif.Blif.{Blif}
use Rattle.vrt_model.specs.declared.circuit.Circuit.{Circuit}
use Rattle.vrt_model.specs.declared.whole.CellFacts.{CellFacts}
use Rattle.vrt_model.specs.declared.whole.Whole.{Whole}
use Rattle.vrt_model.specs.declared.whole.WholePin.{WholePin}

abbrev pin_in : Whole → WholePin → OutputPin
pin_in w pin = record { whole = w; pin = pin }

pins_back : (w : Whole) (pins : List WholePin) → map (λ (out : OutputPin). out.pin) (map (pin_in w) pins) ≡ pins
pins_back w [] = refl
pins_back w (pin ∷ pins) = ap (λ (rest : List WholePin). pin ∷ rest) (pins_back w pins)

module _ (cut : Cut) (blif : Blif) (facts : List CellFacts) where
  abbrev pub settled : OutputAt → WholePin
  settled o = settled_drive (checked_devices cut) (all_outputs cut blif facts) o

  abbrev outputs_at : NumberedPlace → List OutputAt
  outputs_at p = outputs_of_place cut.top blif facts p

  abbrev pins_at : Whole → List OutputPin
  pins_at w = map (pin_in w) w.outputs

  pins_of_places : (places : List NumberedPlace) (wholes : List Whole) → AllZip (IsWholeAt cut blif facts) places wholes
      → map (λ (out : OutputPin). out.pin) (flat_map pins_at wholes) ≡ map settled (flat_map outputs_at places)
  pins_of_places [] [] h = refl
  pins_of_places [] (w ∷ wholes) h = absurd h
  pins_of_places (p ∷ places) [] h = absurd h
  pins_of_places (p ∷ places) (w ∷ wholes) h =
      let devices = checked_devices cut in
      let outputs = all_outputs cut blif facts in
      let first : map (λ (out : OutputPin). out.pin) (pins_at w) ≡ map settled (outputs_at p) =
      pins_back w w.outputs ∙ outputs_are cut.top blif facts p devices devices outputs outputs (paired_model cut.top.design blif cut.top.rules p.at.cell) w h.0.whole in
      map-append (λ (out : OutputPin). out.pin) (pins_at w) (flat_map pins_at wholes)
      ∙ ap₂ (λ (xs ys : List WholePin). xs ++ ys) first (pins_of_places places wholes h.1)
      ∙ sym (map-append settled (outputs_at p) (flat_map outputs_at places))

  module _ (c : Circuit) (circuit : IsCircuitWith cut blif facts c) where
    pins_same : map (λ (out : OutputPin). out.pin) (output_pins c) ≡ map settled (all_outputs cut blif facts)
    pins_same = pins_of_places (whole_places cut) c.wholes circuit.wholes

    -- an output pin is that of the output at its place
    pub pin_output : (j : ℕ) (out : OutputPin) → At (output_pins c) j out → (o : OutputAt) × At (all_outputs cut blif facts) j o × (settled o ≡ out.pin)
    pin_output j out e =
        at_map settled (all_outputs cut blif facts) j out.pin
        (subst (λ (pins : List WholePin). At pins j out.pin) pins_same (map_at (λ (x : OutputPin). x.pin) (output_pins c) j out e))

    pub output_pin : (j : ℕ) (o : OutputAt) → At (all_outputs cut blif facts) j o → (out : OutputPin) × At (output_pins c) j out × (out.pin ≡ settled o)
    output_pin j o e =
        at_map (λ (x : OutputPin). x.pin) (output_pins c) j (settled o)
        (subst (λ (pins : List WholePin). At pins j (settled o)) (sym pins_same) (map_at settled (all_outputs cut blif facts) j o e))
