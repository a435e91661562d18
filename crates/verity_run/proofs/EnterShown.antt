-- An entered constant, worked out by hand: n is to begin the next phase at 1, and a device that is always on pulls it down.
use Rattle.std.proofs.Common.{◌≡◌, zero, suc, ◌<◌, Bool, true, false, List, [], ◌∷◌, Some, None, length, arith, subst, sym, refl, ◌∙◌}
use Rattle.std.specs.Prelude.{codes}
use Rattle.std.proofs.lemmas.Bool.{false≢true}
use Rattle.std.proofs.lemmas.List.Elements.{All-cons, All-nil}
use Rattle.std.proofs.lemmas.Option.{none-some, same_Some}
use Rattle.vrt_model.proofs.Cells.{base as base_rules, design_of, gnd, model_of, n_device, vdd}
use Rattle.vrt_model.proofs.FirstFinding.{found}
use Rattle.vrt_model.proofs.GatesGiven.{HasGivenGates, IsGiven}
use Rattle.vrt_model.proofs.Tables.{are_signals, signal_response}
use Rattle.vrt_model.specs.Assignment.{Assignment, Tied}
use Rattle.vrt_model.specs.Circuits.{IsDevice, IsHold, IsWhole}
use Rattle.vrt_model.specs.Comparison.{Comparison, is_observed, tied_inputs}
use Rattle.vrt_model.specs.Constraints.{Meets}
use Rattle.vrt_model.specs.Covers.{cover_bit}
use Rattle.vrt_model.specs.Faults.{Assigns}
use Rattle.vrt_model.specs.FlatBlif.{all_models, flat_model_of, network_names, signals_of, unrolled_of}
use Rattle.vrt_model.specs.FlatCircuit.{flat_circuit_of}
use Rattle.vrt_model.specs.Groups.{groups_of}
use Rattle.vrt_model.specs.Held.{setting_of}
use Rattle.vrt_model.specs.Lists.{Among, bit_at}
use Rattle.vrt_model.specs.PairedPorts.{pairing_of}
use Rattle.vrt_model.specs.Places.{IsFinding}
use Rattle.vrt_model.specs.Response.{IsResponse, Shows}
use Rattle.vrt_model.specs.Unrolled.{all_places, global_nets, net_at, own_nets}
use Rattle.vrt_model.specs.Unsupported.{comparison_of}
use Rattle.vrt_model.specs.Variables.{variables_of}
use Rattle.vrt_model.specs.declared.circuit.Circuit.{Circuit}
use Rattle.vrt_model.specs.declared.circuit.Device.{Device}
use Rattle.vrt_model.specs.declared.circuit.FlatNet.{FlatNet}
use Rattle.vrt_model.specs.declared.circuit.Hold.{Hold}
use Rattle.vrt_model.specs.declared.circuit.HoldEnd.TheVariants.{Own}
use Rattle.vrt_model.specs.declared.circuit.NetKind.TheVariants.{Plain}
use Rattle.vrt_model.specs.declared.design.Design.{Design}
use Rattle.vrt_model.specs.declared.design.Kind.TheVariants.{N}
use Rattle.vrt_model.specs.declared.rules.Rules.{Rules}
use Rattle.vrt_model.specs.declared.verdict.FaultKind.TheVariants.{Enter}
use Rattle.verity_run.proofs.WorkedFaults.{bits_of, circuit_of, device, finding, fits, has, net, supplies, view}
use Rattle.vrt_model.specs.declared.flat_model.Cover.{Cover}

abbrev rules : Rules
rules = record base_rules {
  holds = record { line = 5; cell = codes "e"; net = codes "n"; size = 1 } ∷ [];
  enters = record { line = 6; cell = codes "e"; phase = 0; net = codes "n"; value = true } ∷ [];
}

abbrev the_hold : Hold
the_hold = record { net = record { 0 = 2 }; size = 1; end = Own (record { 0 = 2 }); inverted = false; enters = record { phase = 0; value = true } ∷ [] }

abbrev nets : List FlatNet
nets = supplies (net (codes "n") Plain ∷ [])

abbrev devices : List Device
devices = device (codes "m1") N 2 1 0 ∷ []

abbrev holds : List Hold
holds = the_hold ∷ []

abbrev design : Design
design = design_of (record { line = 2; name = codes "e"; ports = []; devices = n_device (codes "m1") (codes "n") vdd gnd ∷ []; instances = [] } ∷ [])

abbrev circuit : Circuit
circuit = circuit_of nets devices holds

abbrev cell : Comparison
cell = record {
  design = design;
  rules = rules;
  cell = 0;
  pairing = record { model = 0; ports = []; clocked = [] };
  circuit = circuit;
  model = record { signals = []; inputs = []; clocks = []; outputs = []; covers = []; latches = []; dontcares = [] };
  groups = record { members = record { hold = 0; inverted = false } ∷ []; element = None } ∷ [];
}

cell_is : comparison_of design (record { models = model_of (codes "e") [] [] [] [] [] ∷ [] }) rules 0 0 ≡ cell
unfolding flat_circuit_of all_places net_at own_nets global_nets flat_model_of unrolled_of network_names all_models signals_of pairing_of groups_of
cell_is = refl

abbrev first0 : Device
first0 = device (codes "m1") N 2 1 0

gates : HasGivenGates circuit
gates = record {
  ranges = record {
    devices = All-cons (IsDevice circuit) first0 ([]) (fits circuit first0 (omega arith) (omega arith) (omega arith) (omega arith, omega arith)) (All-nil (IsDevice circuit));
    holds = All-cons (IsHold circuit) the_hold [] (record { net = omega arith; size = (omega arith, omega arith); end = omega arith }) (All-nil (IsHold circuit));
    wholes = All-nil (IsWhole circuit);
  };
  wholes = refl;
  gates = given;
}
  where
    given : (d : Device) → Among devices d → IsGiven circuit d.gate.0
    given d (zero, e) = subst (λ (x : Device). IsGiven circuit x.gate.0) (same_Some first0 d e) (_, refl, refl)
    given d (suc i, e) = absurd (none-some d e)

in_range : 0 < length cell.rules.phases
in_range = omega arith

abbrev bits : List Bool
bits = []

abbrev model : Assignment
model = bits_of ([]) ([])

meets : Meets cell 0 bits
unfolding setting_of variables_of
meets = record { valuation = refl; constraints = refl }

assigns : Assigns cell 0 (setting_of cell 0 bits) model
unfolding setting_of variables_of
assigns = record {
  clocks = λ c m. absurd (none-some c m.1);
  inputs = tied;
  obeys = record { covers = covered; latches = λ l m. absurd (none-some l m.1) };
}
  where
    tied : (t : Tied) → Among (tied_inputs cell) t → (bit_at ([])) t.signal ≡ (setting_of cell 0 bits).inputs t.net
    tied t (i, e) = absurd (none-some t e)

    covered : (c : Cover) → Among cell.model.covers c → (bit_at ([])) c.output ≡ cover_bit (bit_at ([])) c
    covered c (i, e) = absurd (none-some c e)

n_is_low : IsResponse (view cell in_range gates bits meets model assigns true) 2 (Shows false)
unfolding setting_of variables_of
n_is_low =
    signal_response (view cell in_range gates bits meets model assigns true) (8 ∷ 8 ∷ 6 ∷ []) (true ∷ false ∷ true ∷ []) (false ∷ true ∷ false ∷ [])
    (are_signals (view cell in_range gates bits meets model assigns true) 1 (8 ∷ 8 ∷ 6 ∷ []) (true ∷ false ∷ true ∷ []) (false ∷ true ∷ false ∷ []) refl) 2

seen : is_observed cell 0 2 ≡ true
unfolding is_observed
seen = refl

-- n shows 0, and the `enter` line wants 1 for the next phase, which is the same one
pub stands : IsFinding cell (found 0 Enter 2 bits)
stands =
    finding cell in_range gates bits meets model assigns Enter 2 (
      2,
      Some true,
      (refl, (0, the_hold, refl, refl, refl, true, refl)),
      λ e. false≢true (same_Some false true (sym (has cell in_range gates bits meets model assigns 2 false seen n_is_low) ∙ e)),
    )
