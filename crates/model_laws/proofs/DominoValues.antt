-- More of what the definitions compute: rules of cells, constraints, faults of pairing, names, texts.
use Rattle.std.specs.Prelude.{◌≡◌, true, false, [], ◌∷◌, map, Some, None, codes, refl}
use Rattle.std.specs.Fmt.{digits}
use Rattle.model_laws.specs.Cells.{clocked, inv_cell, inv_model, instance, upright}
use Rattle.vrt_model.proofs.Cells.{base, cover, design_of, gnd, model_of, n_device, p_device, vdd}
use Rattle.vrt_model.specs.Comparison.{Comparison, is_observed}
use Rattle.vrt_model.specs.Constraints.{meets}
use Rattle.vrt_model.specs.FlatBlif.{all_models, flat_model_of, network_names, signals_of, unrolled_of}
use Rattle.vrt_model.specs.FlatCircuit.{flat_circuit_of}
use Rattle.vrt_model.specs.Groups.{groups_of}
use Rattle.vrt_model.specs.Held.{setting_of, variable_names}
use Rattle.vrt_model.specs.PairedPorts.{paired_model, pairing_of, ports_fault}
use Rattle.vrt_model.specs.Unrolled.{all_places, global_nets, net_at, own_nets}
use Rattle.vrt_model.specs.Unsupported.{comparison_of, why_early, why_paired}
use Rattle.vrt_model.specs.Variables.{variables_of}
use Rattle.vrt_model.specs.VerdictText.{verdict_line}
use Rattle.vrt_model.specs.declared.blif.Blif.{Blif}
use Rattle.vrt_model.specs.declared.blif.LatchKind.TheVariants.{Ah}
use Rattle.vrt_model.specs.declared.circuit.Device.{Device}
use Rattle.vrt_model.specs.declared.circuit.FlatInstance.{FlatInstance}
use Rattle.vrt_model.specs.declared.circuit.FlatNet.{FlatNet}
use Rattle.vrt_model.specs.declared.design.Cell.{Cell}
use Rattle.vrt_model.specs.declared.design.Design.{Design}
use Rattle.vrt_model.specs.declared.flat_model.Cover.{Cover}
use Rattle.vrt_model.specs.declared.rules.Rules.{Rules}
use Rattle.vrt_model.specs.declared.verdict.FaultKind.TheVariants.{Differs}
use Rattle.vrt_model.specs.declared.verdict.Verdict.TheVariants.{Fault}
use Rattle.vrt_model.specs.declared.verdict.Why.TheVariants.{NoModel, Unmatched, SupplyTie, Ports, DeviceModel}

-- a domino stage with a keeper
abbrev dom_cell : Cell
dom_cell = record {
  line = 2;
  name = codes "dom";
  ports = codes "a" ∷ codes "b" ∷ codes "clk" ∷ codes "out" ∷ [];
  devices =
      p_device (codes "m1") (codes "d") (codes "clk") vdd ∷ n_device (codes "m2") (codes "d") (codes "a") (codes "x") ∷ n_device (codes "m3") (codes "x") (codes "b") (codes "z")
      ∷ n_device (codes "m4") (codes "z") (codes "clk") gnd ∷ p_device (codes "m5") (codes "out") (codes "d") vdd ∷ n_device (codes "m6") (codes "out") (codes "d") gnd
      ∷ p_device (codes "m7") (codes "d") (codes "out") vdd ∷ [];
  instances = [];
}

abbrev dom_rules : Rules
dom_rules =
    let rules = clocked (codes "pre") (codes "eval") in
    record rules {
      clockports = record { line = 8; cell = codes "dom"; port = codes "clk"; clock = upright } ∷ [];
      holds = record { line = 9; cell = codes "dom"; net = codes "d"; size = 1 } ∷ [];
      strengths = record { line = 10; cell = codes "dom"; device = codes "m7"; level = 4 } ∷ [];
      keepers = record { line = 11; cell = codes "dom"; device = codes "m7" } ∷ [];
      enters = record { line = 12; cell = codes "dom"; phase = 1; net = codes "d"; value = true } ∷ [];
      observes = record { line = 13; cell = codes "dom"; port = codes "out"; phases = 1 ∷ [] } ∷ [];
    }

abbrev dom_blif : Blif
dom_blif = record { models = model_of (codes "dom") (codes "a" ∷ codes "b" ∷ []) (codes "out" ∷ []) (cover (codes "a" ∷ codes "b" ∷ []) (codes "out") true (codes "11" ∷ []) ∷ []) [] [] ∷ [] }

abbrev dom : Comparison
dom = comparison_of (design_of (dom_cell ∷ [])) dom_blif dom_rules 0 0

dom_fits : why_paired (design_of (dom_cell ∷ [])) dom_blif dom_rules 0 0 ≡ None
unfolding flat_circuit_of all_places net_at own_nets global_nets flat_model_of unrolled_of network_names all_models signals_of pairing_of ports_fault groups_of variables_of
dom_fits = refl

dom_keepers : map (λ (d : Device). d.keeper) dom.circuit.devices ≡ false ∷ false ∷ false ∷ false ∷ false ∷ false ∷ true ∷ []
unfolding flat_circuit_of all_places net_at own_nets global_nets flat_model_of unrolled_of network_names all_models signals_of pairing_of
dom_keepers = refl

-- in phase pre the held net is a variable, in phase eval it has its constant
dom_variables_pre : variable_names dom 0 ≡ codes "a" ∷ codes "b" ∷ codes "d" ∷ []
unfolding flat_circuit_of all_places net_at own_nets global_nets flat_model_of unrolled_of network_names all_models signals_of pairing_of groups_of variables_of
dom_variables_pre = refl

dom_variables_eval : variable_names dom 1 ≡ codes "a" ∷ codes "b" ∷ []
unfolding flat_circuit_of all_places net_at own_nets global_nets flat_model_of unrolled_of network_names all_models signals_of pairing_of groups_of variables_of
dom_variables_eval = refl

dom_held : (setting_of dom 1 (false ∷ false ∷ [])).held 0 ≡ true
unfolding flat_circuit_of all_places net_at own_nets global_nets flat_model_of unrolled_of network_names all_models signals_of pairing_of groups_of variables_of setting_of
dom_held = refl

dom_meets : meets dom 1 (setting_of dom 1 (false ∷ false ∷ [])) ≡ true
unfolding flat_circuit_of all_places net_at own_nets global_nets flat_model_of unrolled_of network_names all_models signals_of pairing_of groups_of variables_of setting_of
dom_meets = refl

-- the output is observed in phase eval alone, but it is the keeper's gate too
dom_observed : map (is_observed dom 0) (0 ∷ 1 ∷ 2 ∷ 3 ∷ 4 ∷ 5 ∷ 6 ∷ 7 ∷ 8 ∷ []) ≡ false ∷ false ∷ true ∷ true ∷ true ∷ true ∷ true ∷ false ∷ false ∷ []
unfolding flat_circuit_of all_places net_at own_nets global_nets flat_model_of unrolled_of network_names all_models signals_of pairing_of groups_of is_observed
dom_observed = refl

-- without its match line a latch is unmatched
abbrev lat_cell : Cell
lat_cell = record {
  line = 2;
  name = codes "lat";
  ports = codes "d" ∷ codes "clk" ∷ codes "q" ∷ [];
  devices =
      n_device (codes "m1") (codes "d") (codes "clk") (codes "l") ∷ p_device (codes "m2") (codes "qb") (codes "l") vdd ∷ n_device (codes "m3") (codes "qb") (codes "l") gnd
      ∷ p_device (codes "m6") (codes "q") (codes "qb") vdd ∷ n_device (codes "m7") (codes "q") (codes "qb") gnd ∷ [];
  instances = [];
}

abbrev lat_rules : Rules
lat_rules =
    let rules = clocked (codes "low") (codes "high") in
    record rules {
      clockports = record { line = 8; cell = codes "lat"; port = codes "clk"; clock = upright } ∷ [];
      holds = record { line = 9; cell = codes "lat"; net = codes "l"; size = 1 } ∷ [];
    }

abbrev lat_blif : Blif
lat_blif = record {
  models = model_of (codes "lat") (codes "d" ∷ codes "clk" ∷ []) (codes "q" ∷ []) [] (record { line = 4; input = codes "d"; output = codes "q"; kind = Some Ah; control = Some (codes "clk"); init = 3 } ∷ []) [] ∷ [];
}

lat_unmatched : why_paired (design_of (lat_cell ∷ [])) lat_blif lat_rules 0 0 ≡ Some (Unmatched (codes "q"))
unfolding flat_circuit_of all_places net_at own_nets global_nets flat_model_of unrolled_of network_names all_models signals_of pairing_of ports_fault groups_of variables_of
lat_unmatched = refl

-- an instance that ties its supply port to the other supply
abbrev bad_design : Design
bad_design = design_of (record inv_cell { ports = codes "a" ∷ codes "y" ∷ vdd ∷ gnd ∷ [] }
    ∷ record {
      line = 7;
      name = codes "bad";
      ports = codes "a" ∷ codes "y" ∷ [];
      devices = [];
      instances = instance (codes "x1") (codes "a" ∷ codes "y" ∷ codes "a" ∷ gnd ∷ []) (codes "inv") ∷ [];
    } ∷ [])

abbrev bad_blif : Blif
bad_blif = record { models = record inv_model { name = codes "bad" } ∷ [] }

bad_tie : why_paired bad_design bad_blif base 1 0 ≡ Some (SupplyTie (codes "x1"))
unfolding flat_circuit_of all_places net_at own_nets global_nets flat_model_of unrolled_of network_names all_models signals_of pairing_of ports_fault groups_of variables_of
bad_tie = refl

-- no model
no_model : why_early (design_of (inv_cell ∷ [])) (record { models = [] }) base 0 (paired_model (design_of (inv_cell ∷ [])) (record { models = [] }) base 0) ≡ Some NoModel
no_model = refl

-- a second output of the model that no port pairs with
ports_left : why_paired (design_of (inv_cell ∷ [])) (record { models = record inv_model { outputs = codes "y" ∷ codes "q" ∷ [] } ∷ [] }) base 0 0 ≡ Some (Ports (codes "q"))
unfolding flat_circuit_of all_places net_at own_nets global_nets flat_model_of unrolled_of network_names all_models signals_of pairing_of ports_fault groups_of variables_of
ports_left = refl

-- a device model without a rule
no_kind : why_paired (design_of (inv_cell ∷ [])) (record { models = inv_model ∷ [] }) (record base { devices = [] }) 0 0 ≡ Some (DeviceModel (codes "p"))
unfolding flat_circuit_of all_places net_at own_nets global_nets flat_model_of unrolled_of network_names all_models signals_of pairing_of ports_fault groups_of variables_of
no_kind = refl

-- a global net is one net in all cells, after the ports
abbrev gb_cell : Cell
gb_cell = record {
  line = 6;
  name = codes "gb";
  ports = codes "a" ∷ codes "y" ∷ [];
  devices = [];
  instances = instance (codes "x1") (codes "a" ∷ codes "g" ∷ []) (codes "inv") ∷ instance (codes "x2") (codes "g" ∷ codes "y" ∷ []) (codes "inv") ∷ [];
}

abbrev glo_cell : Cell
glo_cell = record {
  line = 10;
  name = codes "glo";
  ports = codes "a" ∷ codes "b" ∷ codes "y" ∷ codes "z" ∷ [];
  devices = [];
  instances = instance (codes "x1") (codes "a" ∷ codes "y" ∷ []) (codes "gb") ∷ instance (codes "x2") (codes "b" ∷ codes "z" ∷ []) (codes "gb") ∷ [];
}

abbrev glo_design : Design
glo_design = record { cells = inv_cell ∷ gb_cell ∷ glo_cell ∷ []; globals = codes "g" ∷ []; models = [] }

abbrev glo_blif : Blif
glo_blif = record { models = model_of (codes "glo") (codes "a" ∷ codes "b" ∷ []) (codes "y" ∷ codes "z" ∷ []) [] [] [] ∷ [] }

abbrev glo : Comparison
glo = comparison_of glo_design glo_blif base 2 0

glo_nets : map (λ (n : FlatNet). n.name) glo.circuit.nets ≡ codes "gnd" ∷ codes "vdd" ∷ codes "a" ∷ codes "b" ∷ codes "y" ∷ codes "z" ∷ codes "g" ∷ []
unfolding flat_circuit_of all_places net_at own_nets global_nets flat_model_of unrolled_of network_names all_models signals_of pairing_of
glo_nets = refl

glo_paths : map (λ (i : FlatInstance). i.path) glo.circuit.instances
    ≡ codes "x1" ∷ codes "x1/x1" ∷ codes "x1/x2" ∷ codes "x2" ∷ codes "x2/x1" ∷ codes "x2/x2" ∷ []
unfolding flat_circuit_of all_places net_at own_nets global_nets flat_model_of unrolled_of network_names all_models signals_of pairing_of
glo_paths = refl

-- a sub-model, whose signals are those around it
abbrev over_sub : Blif
over_sub = record {
  models =
      model_of (codes "inv") (codes "a" ∷ []) (codes "y" ∷ []) [] [] (record { line = 4; model = codes "sub"; ties = record { formal = codes "p"; actual = codes "a" } ∷ record { formal = codes "o"; actual = codes "y" } ∷ [] } ∷ [])
      ∷ model_of (codes "sub") (codes "p" ∷ []) (codes "o" ∷ []) (cover (codes "p" ∷ []) (codes "t") true (codes "0" ∷ []) ∷ cover (codes "t" ∷ []) (codes "o") true (codes "1" ∷ []) ∷ []) [] [] ∷ [];
}

sub_signals : (flat_model_of over_sub 0).signals ≡ codes "a" ∷ codes "y" ∷ codes "0/t" ∷ []
unfolding flat_model_of unrolled_of network_names all_models signals_of digits
sub_signals = refl

sub_outputs : map (λ (c : Cover). c.output) (flat_model_of over_sub 0).covers ≡ 2 ∷ 1 ∷ []
unfolding flat_model_of unrolled_of network_names all_models signals_of
sub_outputs = refl

-- the line of a verdict
nand_line : verdict_line (codes "nand2")
    (Fault (record {
      kind = Differs;
      phase = 0;
      place = codes "y";
      circuit = Some true;
      wanted = Some false;
      names = codes "a" ∷ codes "b" ∷ [];
      valuation = record { bits = false ∷ false ∷ [] };
    })) base None None
    ≡ codes "cell nand2 differs y phase all circuit 1 model 0 at a=0 b=0"
nand_line = refl
