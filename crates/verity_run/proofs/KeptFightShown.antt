-- A fight of the kept circuit alone, worked out by hand: an inverter with a keeper of its own level that always pulls up.
use Rattle.std.proofs.Common.{◌≡◌, zero, suc, ◌<◌, Bool, true, false, List, [], ◌∷◌, length, arith, subst, refl}
use Rattle.std.specs.Prelude.{codes}
use Rattle.std.proofs.lemmas.List.Elements.{All-cons, All-nil}
use Rattle.std.proofs.lemmas.Option.{none-some, same_Some}
use Rattle.vrt_model.proofs.Cells.{base as base_rules, cover, design_of, gnd, model_of, n_device, p_device, vdd}
use Rattle.vrt_model.proofs.FirstFinding.{found}
use Rattle.vrt_model.proofs.GatesGiven.{HasGivenGates, IsGiven}
use Rattle.vrt_model.proofs.Tables.{are_signals, signal_response}
use Rattle.vrt_model.specs.Assignment.{Assignment, Tied}
use Rattle.vrt_model.specs.Circuits.{IsDevice, IsHold, IsWhole}
use Rattle.vrt_model.specs.Comparison.{Comparison, tied_inputs}
use Rattle.vrt_model.specs.Constraints.{Meets}
use Rattle.vrt_model.specs.Covers.{cover_bit}
use Rattle.vrt_model.specs.Faults.{Assigns}
use Rattle.vrt_model.specs.FlatBlif.{all_models, flat_model_of, network_names, signals_of, unrolled_of}
use Rattle.vrt_model.specs.FlatCircuit.{flat_circuit_of}
use Rattle.vrt_model.specs.Groups.{groups_of}
use Rattle.vrt_model.specs.Held.{setting_of}
use Rattle.vrt_model.specs.Lists.{Among, bit_at}
use Rattle.vrt_model.specs.PairedPorts.{pairing_of}
use Rattle.vrt_model.specs.Places.{IsFinding}
use Rattle.vrt_model.specs.Response.{Fight as FightThere, IsResponse, Shows}
use Rattle.vrt_model.specs.Unrolled.{all_places, global_nets, net_at, own_nets}
use Rattle.vrt_model.specs.Unsupported.{comparison_of}
use Rattle.vrt_model.specs.Variables.{variables_of}
use Rattle.vrt_model.specs.declared.circuit.Circuit.{Circuit}
use Rattle.vrt_model.specs.declared.circuit.Device.{Device}
use Rattle.vrt_model.specs.declared.circuit.FlatNet.{FlatNet}
use Rattle.vrt_model.specs.declared.circuit.Hold.{Hold}
use Rattle.vrt_model.specs.declared.circuit.NetKind.TheVariants.{Input as InputNet, Plain}
use Rattle.vrt_model.specs.declared.design.Design.{Design}
use Rattle.vrt_model.specs.declared.design.Kind.TheVariants.{N, P}
use Rattle.vrt_model.specs.declared.pairing.PortRole.TheVariants.{Input, Output}
use Rattle.vrt_model.specs.declared.rules.Rules.{Rules}
use Rattle.vrt_model.specs.declared.verdict.FaultKind.TheVariants.{FightKept}
use Rattle.verity_run.proofs.WorkedFaults.{always, bits_of, circuit_of, device, finding, fits, net, supplies, view}
use Rattle.vrt_model.specs.declared.flat_model.Cover.{Cover}

abbrev rules : Rules
rules = record base_rules { keepers = record { line = 5; cell = codes "f"; device = codes "m3" } ∷ [] }

abbrev nets : List FlatNet
nets = supplies (net (codes "a") InputNet ∷ net (codes "y") Plain ∷ [])

abbrev devices : List Device
devices = device (codes "m1") P 3 2 1 ∷ device (codes "m2") N 3 2 0 ∷ record (device (codes "m3") P 3 0 1) { keeper = true } ∷ []

abbrev holds : List Hold
holds = []

abbrev design : Design
design = design_of (record { line = 2; name = codes "f"; ports = codes "a" ∷ codes "y" ∷ []; devices = p_device (codes "m1") (codes "y") (codes "a") vdd ∷ n_device (codes "m2") (codes "y") (codes "a") gnd ∷ p_device (codes "m3") (codes "y") gnd vdd ∷ []; instances = [] } ∷ [])

abbrev circuit : Circuit
circuit = circuit_of nets devices holds

abbrev cell : Comparison
cell = record {
  design = design;
  rules = rules;
  cell = 0;
  pairing = record { model = 0; ports = Input 0 ∷ Output 1 ∷ []; clocked = [] };
  circuit = circuit;
  model = record { signals = codes "a" ∷ codes "y" ∷ []; inputs = 0 ∷ []; clocks = []; outputs = 1 ∷ []; covers = record { inputs = 0 ∷ []; output = 1; on = true; rows = codes "0" ∷ [] } ∷ []; latches = []; dontcares = [] };
  groups = [];
}

cell_is : comparison_of design (record { models = model_of (codes "f") (codes "a" ∷ []) (codes "y" ∷ []) (cover (codes "a" ∷ []) (codes "y") true (codes "0" ∷ []) ∷ []) [] [] ∷ [] }) rules 0 0 ≡ cell
unfolding flat_circuit_of all_places net_at own_nets global_nets flat_model_of unrolled_of network_names all_models signals_of pairing_of groups_of
cell_is = refl

abbrev first0 : Device
first0 = device (codes "m1") P 3 2 1

abbrev first1 : Device
first1 = device (codes "m2") N 3 2 0

abbrev first2 : Device
first2 = record (device (codes "m3") P 3 0 1) { keeper = true }

gates : HasGivenGates circuit
gates = record {
  ranges = record {
    devices = All-cons (IsDevice circuit) first0 (first1 ∷ first2 ∷ []) (fits circuit first0 (omega arith) (omega arith) (omega arith) (omega arith, omega arith)) (All-cons (IsDevice circuit) first1 (first2 ∷ []) (fits circuit first1 (omega arith) (omega arith) (omega arith) (omega arith, omega arith)) (All-cons (IsDevice circuit) first2 ([]) (fits circuit first2 (omega arith) (omega arith) (omega arith) (omega arith, omega arith)) (All-nil (IsDevice circuit))));
    holds = All-nil (IsHold circuit);
    wholes = All-nil (IsWhole circuit);
  };
  wholes = refl;
  gates = given;
}
  where
    given : (d : Device) → Among devices d → IsGiven circuit d.gate.0
    given d (zero, e) = subst (λ (x : Device). IsGiven circuit x.gate.0) (same_Some first0 d e) (_, refl, refl)
    given d (suc zero, e) = subst (λ (x : Device). IsGiven circuit x.gate.0) (same_Some first1 d e) (_, refl, refl)
    given d (suc (suc zero), e) = subst (λ (x : Device). IsGiven circuit x.gate.0) (same_Some first2 d e) (_, refl, refl)
    given d (suc (suc (suc i)), e) = absurd (none-some d e)

in_range : 0 < length cell.rules.phases
in_range = omega arith

abbrev bits : List Bool
bits = true ∷ []

abbrev model : Assignment
model = bits_of (true ∷ false ∷ []) ([])

meets : Meets cell 0 bits
unfolding setting_of variables_of
meets = record { valuation = refl; constraints = refl }

assigns : Assigns cell 0 (setting_of cell 0 bits) model
unfolding setting_of variables_of
assigns = record {
  clocks = λ c m. absurd (none-some c m.1);
  inputs = tied;
  obeys = record { covers = covered; latches = λ l m. absurd (none-some l m.1) };
}
  where
    tied : (t : Tied) → Among (tied_inputs cell) t → (bit_at (true ∷ false ∷ [])) t.signal ≡ (setting_of cell 0 bits).inputs t.net
    tied t (zero, e) = subst (λ (x : Tied). (bit_at (true ∷ false ∷ [])) x.signal ≡ (setting_of cell 0 bits).inputs x.net) (same_Some _ t e) refl
    tied t (suc i, e) = absurd (none-some t e)

    covered : (c : Cover) → Among cell.model.covers c → (bit_at (true ∷ false ∷ [])) c.output ≡ cover_bit (bit_at (true ∷ false ∷ [])) c
    covered c (zero, e) = subst (λ (x : Cover). (bit_at (true ∷ false ∷ [])) x.output ≡ cover_bit (bit_at (true ∷ false ∷ [])) x) (same_Some _ c e) refl
    covered c (suc i, e) = absurd (none-some c e)

y_fights : IsResponse (view cell in_range gates bits meets model assigns false) 3 FightThere
unfolding setting_of variables_of
y_fights =
    signal_response (view cell in_range gates bits meets model assigns false) (8 ∷ 8 ∷ 8 ∷ 6 ∷ []) (true ∷ false ∷ false ∷ true ∷ []) (false ∷ true ∷ true ∷ true ∷ [])
    (are_signals (view cell in_range gates bits meets model assigns false) 1 (8 ∷ 8 ∷ 8 ∷ 6 ∷ []) (true ∷ false ∷ false ∷ true ∷ []) (false ∷ true ∷ true ∷ true ∷ []) refl) 3

y_is_low : IsResponse (view cell in_range gates bits meets model assigns true) 3 (Shows false)
unfolding setting_of variables_of
y_is_low =
    signal_response (view cell in_range gates bits meets model assigns true) (8 ∷ 8 ∷ 8 ∷ 6 ∷ []) (true ∷ false ∷ false ∷ true ∷ []) (false ∷ true ∷ true ∷ false ∷ [])
    (are_signals (view cell in_range gates bits meets model assigns true) 1 (8 ∷ 8 ∷ 8 ∷ 6 ∷ []) (true ∷ false ∷ false ∷ true ∷ []) (false ∷ true ∷ true ∷ false ∷ []) refl) 3

-- the kept y fights at a = 1, where the bare y shows 0
pub stands : IsFinding cell (found 0 FightKept 3 bits)
stands = finding cell in_range gates bits meets model assigns FightKept 3 ((_, refl, refl), always cell in_range gates bits meets model assigns false 3 FightThere y_fights)
