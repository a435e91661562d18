-- Values: groups, variables, held bits, enters, what a solution ought to give, nodes, and lines.
use Rattle.std.specs.Prelude.{◌≡◌, ℕ, Bool, true, false, [], ◌∷◌, map, Option, Some, None, codes, refl}
use Rattle.model_laws.specs.Cells.{clocked, instance, inv_cell, inv_model, upright}
use Rattle.vrt_model.proofs.Cells.{base, design_of, gnd, model_of, n_device}
use Rattle.vrt_model.specs.Assignment.{Assignment}
use Rattle.vrt_model.specs.Budget.{enough_nodes}
use Rattle.vrt_model.specs.Comparison.{Comparison}
use Rattle.vrt_model.specs.Constraints.{meets}
use Rattle.vrt_model.specs.Faults.{WantsValue, next_phase}
use Rattle.vrt_model.specs.FlatBlif.{all_models, flat_model_of, network_names, signals_of, unrolled_of}
use Rattle.vrt_model.specs.FlatCircuit.{flat_circuit_of}
use Rattle.vrt_model.specs.Groups.{groups_of}
use Rattle.vrt_model.specs.Held.{setting_of, variable_names}
use Rattle.vrt_model.specs.Lists.{bit_at}
use Rattle.vrt_model.specs.PairedPorts.{pairing_of, ports_fault}
use Rattle.vrt_model.specs.Unrolled.{all_places, global_nets, net_at, own_nets}
use Rattle.vrt_model.specs.Unsupported.{comparison_of, why_paired}
use Rattle.vrt_model.specs.Variables.{is_less, variables_of}
use Rattle.vrt_model.specs.VerdictText.{verdict_line}
use Rattle.vrt_model.specs.declared.blif.Blif.{Blif}
use Rattle.vrt_model.specs.declared.blif.LatchKind.TheVariants.{Ah}
use Rattle.vrt_model.specs.declared.design.Design.{Design}
use Rattle.vrt_model.specs.declared.rules.Rules.{Rules}
use Rattle.vrt_model.specs.declared.verdict.FaultKind.TheVariants.{Apart, Next, Enter, Unsettled}
use Rattle.vrt_model.specs.declared.verdict.Verdict.TheVariants.{Fault, Unsupported}
use Rattle.vrt_model.specs.declared.verdict.Why.TheVariants.{ModelCycle, NoClock}

-- inner cell with two holds of one latch, the second inverted; around it one latch of its own, and a hold without a latch
abbrev design : Design
design = design_of (record {
  line = 2;
  name = codes "two";
  ports = codes "d" ∷ codes "clk" ∷ codes "q" ∷ [];
  devices = n_device (codes "m1") (codes "d") (codes "clk") (codes "l1") ∷ n_device (codes "m2") gnd (codes "l1") (codes "l2") ∷ n_device (codes "m3") (codes "q") (codes "l2") gnd ∷ [];
  instances = [];
} ∷ record {
  line = 10;
  name = codes "par";
  ports = codes "d" ∷ codes "clk" ∷ codes "y" ∷ [];
  devices = n_device (codes "m1") (codes "d") (codes "clk") (codes "h") ∷ n_device (codes "m2") (codes "k") (codes "h") gnd ∷ [];
  instances = instance (codes "x1") (codes "d" ∷ codes "clk" ∷ codes "y" ∷ []) (codes "two") ∷ [];
} ∷ [])

abbrev rules : Rules
rules =
    let r = clocked (codes "low") (codes "high") in
    record r {
      clockports = record { line = 8; cell = codes "two"; port = codes "clk"; clock = upright } ∷ record { line = 9; cell = codes "par"; port = codes "clk"; clock = upright } ∷ [];
      holds = record { line = 10; cell = codes "two"; net = codes "l2"; size = 1 } ∷ record { line = 11; cell = codes "two"; net = codes "l1"; size = 1 } ∷ record { line = 12; cell = codes "par"; net = codes "h"; size = 2 } ∷ record { line = 13; cell = codes "par"; net = codes "k"; size = 1 } ∷ [];
      matches =
          record { line = 14; cell = codes "two"; net = codes "l1"; latch = codes "q"; inverted = false } ∷ record { line = 15; cell = codes "two"; net = codes "l2"; latch = codes "q"; inverted = true }
          ∷ record { line = 16; cell = codes "par"; net = codes "h"; latch = codes "y"; inverted = true } ∷ [];
      enters = record { line = 17; cell = codes "two"; phase = 1; net = codes "l2"; value = true } ∷ record { line = 18; cell = codes "par"; phase = 0; net = codes "h"; value = true } ∷ [];
    }

abbrev blif : Blif
blif = record {
  models =
      model_of (codes "par") (codes "d" ∷ codes "clk" ∷ []) (codes "y" ∷ []) [] (record { line = 4; input = codes "d"; output = codes "y"; kind = Some Ah; control = Some (codes "clk"); init = 3 } ∷ []) [] ∷ [];
}

abbrev par : Comparison
par = comparison_of design blif rules 1 0

fits : why_paired design blif rules 1 0 ≡ None
unfolding flat_circuit_of all_places net_at own_nets global_nets flat_model_of unrolled_of network_names all_models signals_of pairing_of ports_fault groups_of variables_of
fits = refl

groups : par.groups ≡ record { members = record { hold = 0; inverted = true } ∷ []; element = Some 0 } ∷ record { members = record { hold = 1; inverted = false } ∷ []; element = None }
    ∷ record { members = record { hold = 2; inverted = false } ∷ record { hold = 3; inverted = true } ∷ []; element = None } ∷ []
unfolding flat_circuit_of all_places net_at own_nets global_nets flat_model_of unrolled_of network_names all_models signals_of pairing_of groups_of
groups = refl

-- inputs, elements, groups
names_low : variable_names par 0 ≡ codes "d" ∷ codes "y" ∷ codes "k" ∷ codes "x1/l1" ∷ []
unfolding flat_circuit_of all_places net_at own_nets global_nets flat_model_of unrolled_of network_names all_models signals_of pairing_of groups_of variables_of
names_low = refl

names_high : variable_names par 1 ≡ codes "d" ∷ codes "y" ∷ codes "k" ∷ []
unfolding flat_circuit_of all_places net_at own_nets global_nets flat_model_of unrolled_of network_names all_models signals_of pairing_of groups_of variables_of
names_high = refl

-- low: y=0 gives h=1 (inverted), k=1, l1=1, l2=0
held_low : map (setting_of par 0 (false ∷ false ∷ true ∷ true ∷ [])).held (0 ∷ 1 ∷ 2 ∷ 3 ∷ []) ≡ true ∷ true ∷ true ∷ false ∷ []
unfolding flat_circuit_of all_places net_at own_nets global_nets flat_model_of unrolled_of network_names all_models signals_of pairing_of groups_of variables_of setting_of
held_low = refl

meets_low : map (λ (b : Bool). meets par 0 (setting_of par 0 (false ∷ b ∷ true ∷ true ∷ []))) (false ∷ true ∷ []) ≡ true ∷ false ∷ []
unfolding flat_circuit_of all_places net_at own_nets global_nets flat_model_of unrolled_of network_names all_models signals_of pairing_of groups_of variables_of setting_of
meets_low = refl

-- high: the constant l2=1 gives the group 0, so l1=0
held_high : map (setting_of par 1 (false ∷ false ∷ true ∷ [])).held (0 ∷ 1 ∷ 2 ∷ 3 ∷ []) ≡ true ∷ true ∷ false ∷ true ∷ []
unfolding flat_circuit_of all_places net_at own_nets global_nets flat_model_of unrolled_of network_names all_models signals_of pairing_of groups_of variables_of setting_of
held_high = refl

after : map (next_phase rules) (0 ∷ 1 ∷ []) ≡ 1 ∷ 0 ∷ []
after = refl

after_one : next_phase base 0 ≡ 0
after_one = refl

-- par's nets: gnd vdd d clk y h k x1/l1 x1/l2 : 0..8
abbrev shown : ℕ → Option Bool
shown n = Some (bit_at (false ∷ true ∷ false ∷ false ∷ false ∷ true ∷ true ∷ true ∷ true ∷ []) n)

abbrev g : Assignment
g = record { signal = λ s. false; next = λ e. false }

-- l2 is apart: l1 is 1, so it ought to be 0
apart : WantsValue par 0 shown g Apart 8 8 (Some false)
unfolding flat_circuit_of all_places net_at own_nets global_nets flat_model_of unrolled_of network_names all_models signals_of pairing_of groups_of
apart = (refl, (3, _, record { hold = 3; inverted = true }, record { hold = 2; inverted = false }, _, record { stands = (_, refl, refl); grouped = (2, refl); joined = ((1, refl), refl) }, refl, refl, refl, refl))

next : WantsValue par 0 shown g Next 5 5 (Some true)
unfolding flat_circuit_of all_places net_at own_nets global_nets flat_model_of unrolled_of network_names all_models signals_of pairing_of groups_of
next = (refl, (0, _, record { hold = 0; inverted = true }, 0, record { stands = (_, refl, refl); grouped = (0, refl); joined = ((0, refl), refl) }, refl, refl))

-- in phase low l2 ought to be the constant of high; in phase high h that of low
enter_low : WantsValue par 0 shown g Enter 8 8 (Some true)
unfolding flat_circuit_of all_places net_at own_nets global_nets flat_model_of unrolled_of network_names all_models signals_of pairing_of groups_of
enter_low = (refl, (3, _, refl, refl, refl, true, refl))

enter_high : WantsValue par 1 shown g Enter 5 5 (Some true)
unfolding flat_circuit_of all_places net_at own_nets global_nets flat_model_of unrolled_of network_names all_models signals_of pairing_of groups_of
enter_high = (refl, (0, _, refl, refl, refl, true, refl))

less : map (is_less (true ∷ false ∷ [])) ((true ∷ true ∷ []) ∷ (false ∷ true ∷ []) ∷ (true ∷ false ∷ []) ∷ []) ≡ true ∷ false ∷ false ∷ []
less = refl

nodes : enough_nodes (comparison_of (design_of (inv_cell ∷ [])) (record { models = inv_model ∷ [] }) base 0 0) (record { models = inv_model ∷ [] }) 0 ≡ 70602
unfolding flat_circuit_of all_places net_at own_nets global_nets flat_model_of unrolled_of network_names all_models signals_of pairing_of groups_of variables_of
nodes = refl

unsettled_line : verdict_line (codes "dom")
    (Fault (record { kind = Unsettled; phase = 1; place = codes "d"; circuit = Some false; wanted = Some true; names = []; valuation = record { bits = [] } })) rules None None
    ≡ codes "cell dom unsettled d phase high circuit 0 wanted 1 at -"
unsettled_line = refl

cycle_line : verdict_line (codes "inv") (Unsupported (ModelCycle 1 (0 ∷ []))) rules None (Some (record { signals = codes "y" ∷ []; inputs = []; clocks = []; outputs = []; covers = []; latches = []; dontcares = [] }))
    ≡ codes "cell inv unsupported modelcycle y phase high"
cycle_line = refl

clock_line : verdict_line (codes "inv") (Unsupported (NoClock (codes "0/q"))) rules None None ≡ codes "cell inv unsupported noclock 0/q"
clock_line = refl
