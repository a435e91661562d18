-- Circuits in which whole instances may stand: those without any are among them, and where output pins belong.
use Rattle.std.proofs.Common.{List, map, subst}
use Rattle.known_nets.specs.Wired.{IsWired}
use Rattle.vrt_model.proofs.Members.{among_flat_map, among_map, at_none}
use Rattle.vrt_model.proofs.Networks.{flat_ranges}
use Rattle.vrt_model.specs.Circuits.{IsFlat}
use Rattle.vrt_model.specs.Lists.{At, Among}
use Rattle.vrt_model.specs.State.{OutputPin, output_pins}
use Rattle.vrt_model.specs.declared.circuit.Circuit.{Circuit}
use Rattle.vrt_model.specs.declared.whole.Whole.{Whole}
use Rattle.vrt_model.specs.declared.whole.WholePin.{WholePin}

-- a circuit without whole instances is one in which they may stand
pub flat_wired : (c : Circuit) → IsFlat c → IsWired c
flat_wired c flat = record {
  ranges = flat_ranges c flat;
  outputs = λ w pin m out. absurd (at_none m.0 w (subst (λ (ws : List Whole). At ws m.0 w) flat.wholes m.1));
}

-- an output pin is one of a whole instance of the circuit
pub pin_of_whole : (c : Circuit) (out : OutputPin) → Among (output_pins c) out → Among c.wholes out.whole × Among out.whole.outputs out.pin
pin_of_whole c out m =
    let from = among_flat_map (λ (w : Whole). map (λ (p : WholePin). let one : OutputPin = record { whole = w; pin = p } in one) w.outputs) c.wholes out m in
    let whole : Whole = from.0 in
    let here = among_map (λ (p : WholePin). let one : OutputPin = record { whole = whole; pin = p } in one) whole.outputs out from.2 in
    (subst (λ (o : OutputPin). Among c.wholes o.whole) here.2 from.1, subst (λ (o : OutputPin). Among o.whole.outputs o.pin) here.2 here.1)
