-- A next value, worked out by hand: l takes d where e is 1, and is matched with the opposite of a latch that takes d too.
use Rattle.std.proofs.Common.{◌≡◌, zero, suc, ◌<◌, Bool, true, false, List, [], ◌∷◌, Some, None, length, arith, subst, sym, refl, ◌∙◌}
use Rattle.std.specs.Prelude.{codes}
use Rattle.std.proofs.lemmas.Bool.{false≢true}
use Rattle.std.proofs.lemmas.List.Elements.{All-cons, All-nil}
use Rattle.std.proofs.lemmas.Option.{none-some, same_Some}
use Rattle.vrt_model.proofs.Cells.{base as base_rules, design_of, model_of, n_device}
use Rattle.vrt_model.proofs.FirstFinding.{found}
use Rattle.vrt_model.proofs.GatesGiven.{HasGivenGates, IsGiven}
use Rattle.vrt_model.proofs.Tables.{are_signals, signal_response}
use Rattle.vrt_model.specs.Assignment.{Assignment, LatchHolds, Tied, control_bit}
use Rattle.vrt_model.specs.Circuits.{IsDevice, IsHold, IsWhole}
use Rattle.vrt_model.specs.Comparison.{Comparison, is_observed, tied_inputs}
use Rattle.vrt_model.specs.Constraints.{Meets}
use Rattle.vrt_model.specs.Covers.{cover_bit}
use Rattle.vrt_model.specs.Faults.{Assigns, WantsValue}
use Rattle.vrt_model.specs.FlatBlif.{all_models, flat_model_of, network_names, signals_of, unrolled_of}
use Rattle.vrt_model.specs.FlatCircuit.{flat_circuit_of}
use Rattle.vrt_model.specs.Groups.{groups_of}
use Rattle.vrt_model.specs.Held.{setting_of}
use Rattle.vrt_model.specs.Lists.{Among, bit_at}
use Rattle.vrt_model.specs.PairedPorts.{pairing_of}
use Rattle.vrt_model.specs.Places.{IsFinding}
use Rattle.vrt_model.specs.Response.{IsResponse, Shows}
use Rattle.vrt_model.specs.Unrolled.{all_places, global_nets, net_at, own_nets}
use Rattle.vrt_model.specs.Unsupported.{comparison_of}
use Rattle.vrt_model.specs.Variables.{variables_of}
use Rattle.vrt_model.specs.declared.blif.LatchKind.TheVariants.{Ah}
use Rattle.vrt_model.specs.declared.circuit.Circuit.{Circuit}
use Rattle.vrt_model.specs.declared.circuit.Device.{Device}
use Rattle.vrt_model.specs.declared.circuit.FlatNet.{FlatNet}
use Rattle.vrt_model.specs.declared.circuit.Hold.{Hold}
use Rattle.vrt_model.specs.declared.circuit.HoldEnd.TheVariants.{Latch}
use Rattle.vrt_model.specs.declared.circuit.NetKind.TheVariants.{Input as InputNet, Plain}
use Rattle.vrt_model.specs.declared.design.Design.{Design}
use Rattle.vrt_model.specs.declared.design.Kind.TheVariants.{N}
use Rattle.vrt_model.specs.declared.pairing.PortRole.TheVariants.{Input}
use Rattle.vrt_model.specs.declared.rules.Rules.{Rules}
use Rattle.vrt_model.specs.declared.verdict.FaultKind.TheVariants.{Next}
use Rattle.verity_run.proofs.WorkedFaults.{bits_of, circuit_of, device, finding, fits, has, net, solution, supplies, view}
use Rattle.vrt_model.specs.declared.flat_model.Cover.{Cover}
use Rattle.vrt_model.specs.Elements.{Numbered, numbered_latches}
use Rattle.vrt_model.specs.declared.flat_model.FlatLatch.{FlatLatch}

abbrev rules : Rules
rules = record base_rules {
  holds = record { line = 5; cell = codes "n"; net = codes "l"; size = 1 } ∷ [];
  matches = record { line = 6; cell = codes "n"; net = codes "l"; latch = codes "q"; inverted = true } ∷ [];
}

abbrev the_hold : Hold
the_hold = record { net = record { 0 = 4 }; size = 1; end = Latch None (codes "q"); inverted = true; enters = [] }

abbrev the_latch : FlatLatch
the_latch = record { input = 0; output = 2; kind = Ah; control = Some 1 }

abbrev nets : List FlatNet
nets = supplies (net (codes "d") InputNet ∷ net (codes "e") InputNet ∷ net (codes "l") Plain ∷ [])

abbrev devices : List Device
devices = device (codes "m1") N 2 3 4 ∷ []

abbrev holds : List Hold
holds = the_hold ∷ []

abbrev design : Design
design = design_of (record { line = 2; name = codes "n"; ports = codes "d" ∷ codes "e" ∷ []; devices = n_device (codes "m1") (codes "d") (codes "e") (codes "l") ∷ []; instances = [] } ∷ [])

abbrev circuit : Circuit
circuit = circuit_of nets devices holds

abbrev cell : Comparison
cell = record {
  design = design;
  rules = rules;
  cell = 0;
  pairing = record { model = 0; ports = Input 0 ∷ Input 1 ∷ []; clocked = [] };
  circuit = circuit;
  model = record { signals = codes "d" ∷ codes "e" ∷ codes "q" ∷ []; inputs = 0 ∷ 1 ∷ []; clocks = []; outputs = []; covers = []; latches = the_latch ∷ []; dontcares = [] };
  groups = record { members = record { hold = 0; inverted = true } ∷ []; element = Some 0 } ∷ [];
}

cell_is : comparison_of design (record { models = model_of (codes "n") (codes "d" ∷ codes "e" ∷ []) [] [] (record { line = 3; input = codes "d"; output = codes "q"; kind = Some Ah; control = Some (codes "e"); init = 3 } ∷ []) [] ∷ [] }) rules 0 0 ≡ cell
unfolding flat_circuit_of all_places net_at own_nets global_nets flat_model_of unrolled_of network_names all_models signals_of pairing_of groups_of
cell_is = refl

abbrev first0 : Device
first0 = device (codes "m1") N 2 3 4

gates : HasGivenGates circuit
gates = record {
  ranges = record {
    devices = All-cons (IsDevice circuit) first0 ([]) (fits circuit first0 (omega arith) (omega arith) (omega arith) (omega arith, omega arith)) (All-nil (IsDevice circuit));
    holds = All-cons (IsHold circuit) the_hold [] (record { net = omega arith; size = (omega arith, omega arith); end = tt }) (All-nil (IsHold circuit));
    wholes = All-nil (IsWhole circuit);
  };
  wholes = refl;
  gates = given;
}
  where
    given : (d : Device) → Among devices d → IsGiven circuit d.gate.0
    given d (zero, e) = subst (λ (x : Device). IsGiven circuit x.gate.0) (same_Some first0 d e) (_, refl, refl)
    given d (suc i, e) = absurd (none-some d e)

in_range : 0 < length cell.rules.phases
in_range = omega arith

abbrev bits : List Bool
bits = false ∷ true ∷ false ∷ []

abbrev model : Assignment
model = bits_of (false ∷ true ∷ false ∷ []) (false ∷ [])

meets : Meets cell 0 bits
unfolding setting_of variables_of
meets = record { valuation = refl; constraints = refl }

assigns : Assigns cell 0 (setting_of cell 0 bits) model
unfolding setting_of variables_of
assigns = record {
  clocks = λ c m. absurd (none-some c m.1);
  inputs = tied;
  obeys = record { covers = covered; latches = latched };
}
  where
    tied : (t : Tied) → Among (tied_inputs cell) t → (bit_at (false ∷ true ∷ false ∷ [])) t.signal ≡ (setting_of cell 0 bits).inputs t.net
    tied t (zero, e) = subst (λ (x : Tied). (bit_at (false ∷ true ∷ false ∷ [])) x.signal ≡ (setting_of cell 0 bits).inputs x.net) (same_Some _ t e) refl
    tied t (suc zero, e) = subst (λ (x : Tied). (bit_at (false ∷ true ∷ false ∷ [])) x.signal ≡ (setting_of cell 0 bits).inputs x.net) (same_Some _ t e) refl
    tied t (suc (suc i), e) = absurd (none-some t e)

    covered : (c : Cover) → Among cell.model.covers c → (bit_at (false ∷ true ∷ false ∷ [])) c.output ≡ cover_bit (bit_at (false ∷ true ∷ false ∷ [])) c
    covered c (i, e) = absurd (none-some c e)

    latched : (l : Numbered) → Among (numbered_latches cell.model) l
        → LatchHolds l.latch.kind (control_bit false model l.latch) (model.signal l.latch.input) (setting_of cell 0 bits).elements model.next l.first (model.signal l.latch.output)
    latched l (zero, e) =
        subst (λ (x : Numbered). LatchHolds x.latch.kind (control_bit false model x.latch) (model.signal x.latch.input) (setting_of cell 0 bits).elements model.next x.first (model.signal x.latch.output))
        (same_Some _ l e) (refl, refl)
    latched l (suc i, e) = absurd (none-some l e)

l_is_low : IsResponse (view cell in_range gates bits meets model assigns true) 4 (Shows false)
unfolding setting_of variables_of
l_is_low =
    signal_response (view cell in_range gates bits meets model assigns true) (8 ∷ 8 ∷ 8 ∷ 8 ∷ 6 ∷ []) (true ∷ false ∷ true ∷ false ∷ true ∷ []) (false ∷ true ∷ false ∷ true ∷ false ∷ [])
    (are_signals (view cell in_range gates bits meets model assigns true) 1 (8 ∷ 8 ∷ 8 ∷ 8 ∷ 6 ∷ []) (true ∷ false ∷ true ∷ false ∷ true ∷ []) (false ∷ true ∷ false ∷ true ∷ false ∷ []) refl) 4

seen : is_observed cell 0 4 ≡ true
unfolding is_observed
seen = refl

-- at d = 0, e = 1, q = 0 the net l takes 0, and the match line wants the opposite of the new bit of q
wanted : WantsValue cell 0 (solution cell in_range gates bits meets model assigns) model Next 4 4 (Some true)
wanted = (
  refl,
  (
    0,
    record { members = record { hold = 0; inverted = true } ∷ []; element = Some 0 },
    record { hold = 0; inverted = true },
    0,
    record { stands = (the_hold, refl, refl); grouped = (0, refl); joined = ((0, refl), refl) },
    refl,
    refl,
  ),
)

pub stands : IsFinding cell (found 0 Next 4 bits)
stands =
    finding cell in_range gates bits meets model assigns Next 4
    (4, Some true, wanted, λ e. false≢true (same_Some false true (sym (has cell in_range gates bits meets model assigns 4 false seen l_is_low) ∙ e)))
