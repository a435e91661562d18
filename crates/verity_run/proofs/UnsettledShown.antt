-- A net that does not keep its bit, worked out by hand: y keeps a charge, and a keeper that is always on pulls it down.
use Rattle.std.proofs.Common.{◌≡◌, zero, suc, ◌<◌, Bool, true, false, List, [], ◌∷◌, Some, None, length, arith, subst, sym, refl, ◌∙◌}
use Rattle.std.specs.Prelude.{codes}
use Rattle.std.proofs.lemmas.List.Elements.{All-cons, All-nil}
use Rattle.std.proofs.lemmas.Option.{none-some, same_Some}
use Rattle.vrt_model.proofs.Cells.{base as base_rules, cover, design_of, gnd, model_of, n_device, vdd}
use Rattle.vrt_model.proofs.FirstFinding.{found}
use Rattle.vrt_model.proofs.GatesGiven.{HasGivenGates, IsGiven}
use Rattle.vrt_model.proofs.Tables.{are_signals, signal_response}
use Rattle.vrt_model.specs.Assignment.{Assignment, Tied}
use Rattle.vrt_model.specs.Circuits.{IsDevice, IsHold, IsWhole}
use Rattle.vrt_model.specs.Comparison.{Comparison, is_observed, tied_inputs}
use Rattle.vrt_model.specs.Constraints.{Meets}
use Rattle.vrt_model.specs.Covers.{cover_bit}
use Rattle.vrt_model.specs.Faults.{NeverKeeps, Assigns, Responds}
use Rattle.vrt_model.specs.FlatBlif.{all_models, flat_model_of, network_names, signals_of, unrolled_of}
use Rattle.vrt_model.specs.FlatCircuit.{flat_circuit_of}
use Rattle.vrt_model.specs.Groups.{groups_of}
use Rattle.vrt_model.specs.Held.{setting_of}
use Rattle.vrt_model.specs.Lists.{Among, bit_at}
use Rattle.vrt_model.specs.PairedPorts.{pairing_of}
use Rattle.vrt_model.specs.Places.{IsFinding}
use Rattle.vrt_model.specs.Response.{IsResponse, Shows}
use Rattle.vrt_model.specs.State.{network_of}
use Rattle.vrt_model.specs.Unrolled.{all_places, global_nets, net_at, own_nets}
use Rattle.vrt_model.specs.Unsupported.{comparison_of}
use Rattle.vrt_model.specs.Variables.{variables_of}
use Rattle.vrt_model.specs.declared.circuit.Circuit.{Circuit}
use Rattle.vrt_model.specs.declared.circuit.Device.{Device}
use Rattle.vrt_model.specs.declared.circuit.FlatNet.{FlatNet}
use Rattle.vrt_model.specs.declared.circuit.Hold.{Hold}
use Rattle.vrt_model.specs.declared.circuit.HoldEnd.TheVariants.{Own}
use Rattle.vrt_model.specs.declared.circuit.NetKind.TheVariants.{Plain}
use Rattle.vrt_model.specs.declared.design.Design.{Design}
use Rattle.vrt_model.specs.declared.design.Kind.TheVariants.{N}
use Rattle.vrt_model.specs.declared.pairing.PortRole.TheVariants.{Output}
use Rattle.vrt_model.specs.declared.rules.Rules.{Rules}
use Rattle.vrt_model.specs.declared.verdict.FaultKind.TheVariants.{Unsettled}
use Rattle.verity_run.proofs.WorkedFaults.{always, bits_of, circuit_of, device, finding, fits, has, net, solution, supplies, view}
use Rattle.vrt_model.specs.declared.flat_model.Cover.{Cover}

abbrev rules : Rules
rules = record base_rules {
  strengths = record { line = 5; cell = codes "u"; device = codes "m1"; level = 4 } ∷ [];
  keepers = record { line = 6; cell = codes "u"; device = codes "m1" } ∷ [];
  holds = record { line = 7; cell = codes "u"; net = codes "y"; size = 1 } ∷ [];
}

abbrev the_hold : Hold
the_hold = record { net = record { 0 = 2 }; size = 1; end = Own (record { 0 = 2 }); inverted = false; enters = [] }

abbrev nets : List FlatNet
nets = supplies (net (codes "y") Plain ∷ [])

abbrev devices : List Device
devices = record (device (codes "m1") N 2 1 0) { level = 4; keeper = true } ∷ []

abbrev holds : List Hold
holds = the_hold ∷ []

abbrev design : Design
design = design_of (record { line = 2; name = codes "u"; ports = codes "y" ∷ []; devices = n_device (codes "m1") (codes "y") vdd gnd ∷ []; instances = [] } ∷ [])

abbrev circuit : Circuit
circuit = circuit_of nets devices holds

abbrev cell : Comparison
cell = record {
  design = design;
  rules = rules;
  cell = 0;
  pairing = record { model = 0; ports = Output 0 ∷ []; clocked = [] };
  circuit = circuit;
  model = record { signals = codes "y" ∷ []; inputs = []; clocks = []; outputs = 0 ∷ []; covers = record { inputs = []; output = 0; on = true; rows = [] ∷ [] } ∷ []; latches = []; dontcares = [] };
  groups = record { members = record { hold = 0; inverted = false } ∷ []; element = None } ∷ [];
}

cell_is : comparison_of design (record { models = model_of (codes "u") [] (codes "y" ∷ []) (cover [] (codes "y") true ([] ∷ []) ∷ []) [] [] ∷ [] }) rules 0 0 ≡ cell
unfolding flat_circuit_of all_places net_at own_nets global_nets flat_model_of unrolled_of network_names all_models signals_of pairing_of groups_of
cell_is = refl

abbrev first0 : Device
first0 = record (device (codes "m1") N 2 1 0) { level = 4; keeper = true }

gates : HasGivenGates circuit
gates = record {
  ranges = record {
    devices = All-cons (IsDevice circuit) first0 ([]) (fits circuit first0 (omega arith) (omega arith) (omega arith) (omega arith, omega arith)) (All-nil (IsDevice circuit));
    holds = All-cons (IsHold circuit) the_hold [] (record { net = omega arith; size = (omega arith, omega arith); end = omega arith }) (All-nil (IsHold circuit));
    wholes = All-nil (IsWhole circuit);
  };
  wholes = refl;
  gates = given;
}
  where
    given : (d : Device) → Among devices d → IsGiven circuit d.gate.0
    given d (zero, e) = subst (λ (x : Device). IsGiven circuit x.gate.0) (same_Some first0 d e) (_, refl, refl)
    given d (suc i, e) = absurd (none-some d e)

in_range : 0 < length cell.rules.phases
in_range = omega arith

abbrev bits : List Bool
bits = true ∷ []

abbrev model : Assignment
model = bits_of (true ∷ []) ([])

meets : Meets cell 0 bits
unfolding setting_of variables_of
meets = record { valuation = refl; constraints = refl }

assigns : Assigns cell 0 (setting_of cell 0 bits) model
unfolding setting_of variables_of
assigns = record {
  clocks = λ c m. absurd (none-some c m.1);
  inputs = tied;
  obeys = record { covers = covered; latches = λ l m. absurd (none-some l m.1) };
}
  where
    tied : (t : Tied) → Among (tied_inputs cell) t → (bit_at (true ∷ [])) t.signal ≡ (setting_of cell 0 bits).inputs t.net
    tied t (i, e) = absurd (none-some t e)

    covered : (c : Cover) → Among cell.model.covers c → (bit_at (true ∷ [])) c.output ≡ cover_bit (bit_at (true ∷ [])) c
    covered c (zero, e) = subst (λ (x : Cover). (bit_at (true ∷ [])) x.output ≡ cover_bit (bit_at (true ∷ [])) x) (same_Some _ c e) refl
    covered c (suc i, e) = absurd (none-some c e)

y_is_high : IsResponse (view cell in_range gates bits meets model assigns true) 2 (Shows true)
unfolding setting_of variables_of
y_is_high =
    signal_response (view cell in_range gates bits meets model assigns true) (8 ∷ 8 ∷ 1 ∷ []) (true ∷ false ∷ false ∷ []) (false ∷ true ∷ true ∷ [])
    (are_signals (view cell in_range gates bits meets model assigns true) 1 (8 ∷ 8 ∷ 1 ∷ []) (true ∷ false ∷ false ∷ []) (false ∷ true ∷ true ∷ []) refl) 2

y_is_low : IsResponse (view cell in_range gates bits meets model assigns false) 2 (Shows false)
unfolding setting_of variables_of
y_is_low =
    signal_response (view cell in_range gates bits meets model assigns false) (8 ∷ 8 ∷ 4 ∷ []) (true ∷ false ∷ true ∷ []) (false ∷ true ∷ false ∷ [])
    (are_signals (view cell in_range gates bits meets model assigns false) 1 (8 ∷ 8 ∷ 4 ∷ []) (true ∷ false ∷ true ∷ []) (false ∷ true ∷ false ∷ []) refl) 2

seen : is_observed cell 0 2 ≡ true
unfolding is_observed
seen = refl

-- the kept y shows 0 at y = 1, where the bare y shows 1
pub stands : IsFinding cell (found 0 Unsettled 2 bits)
stands = finding cell in_range gates bits meets model assigns Unsettled 2 (seen, never)
  where
    low : Responds cell 0 (setting_of cell 0 bits) (solution cell in_range gates bits meets model assigns) false 2 (Shows false)
    low = always cell in_range gates bits meets model assigns false 2 (Shows false) y_is_low

    never : NeverKeeps cell 0 (setting_of cell 0 bits) (solution cell in_range gates bits meets model assigns) 2
    never s good agrees v e shows =
        let high : solution cell in_range gates bits meets model assigns 2 ≡ Some true = has cell in_range gates bits meets model assigns 2 true seen y_is_high in
        let one : IsResponse (network_of circuit false (setting_of cell 0 bits).held s) 2 (Shows true) =
        subst (λ (u : Bool). IsResponse (network_of circuit false (setting_of cell 0 bits).held s) 2 (Shows u)) (same_Some v true (sym e ∙ high)) shows in
        (low s good agrees).1 one.0
