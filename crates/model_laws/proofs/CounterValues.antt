-- What the definitions compute on small netlists.
use Rattle.std.specs.Prelude.{◌≡◌, ℕ, Bool, true, false, List, [], ◌∷◌, map, Some, None, codes, refl}
use Rattle.model_laws.specs.Cells.{buf_cell, cnt_cell, cnt_model, cnt_rules, dff_cell, inv_cell, inv_model, nand_model}
use Rattle.vrt_model.proofs.Cells.{base, cover, design_of}
use Rattle.vrt_model.specs.Budget.{work, work_of}
use Rattle.vrt_model.specs.Comparison.{Comparison}
use Rattle.vrt_model.specs.Covers.{cover_bit}
use Rattle.vrt_model.specs.FlatBlif.{all_models, flat_model_of, network_names, signals_of, unrolled_of}
use Rattle.vrt_model.specs.FlatCircuit.{flat_circuit_of}
use Rattle.vrt_model.specs.Groups.{groups_of}
use Rattle.vrt_model.specs.Held.{setting_of, variable_names}
use Rattle.vrt_model.specs.Hierarchy.{bad_card, cell_order, missing_name}
use Rattle.vrt_model.specs.Lists.{bit_at}
use Rattle.vrt_model.specs.Models.{Never, driver_fault}
use Rattle.vrt_model.specs.PairedPorts.{Model, paired_model, pairing_of, ports_fault}
use Rattle.vrt_model.specs.Unrolled.{all_places, global_nets, net_at, own_nets}
use Rattle.vrt_model.specs.Unsupported.{comparison_of, why_paired}
use Rattle.vrt_model.specs.Variables.{variables_of}
use Rattle.vrt_model.specs.declared.blif.Blif.{Blif}
use Rattle.vrt_model.specs.declared.circuit.Device.{Device}
use Rattle.vrt_model.specs.declared.circuit.FlatNet.{FlatNet}
use Rattle.vrt_model.specs.declared.circuit.HoldEnd.TheVariants.{Latch}
use Rattle.vrt_model.specs.declared.circuit.NetKind.TheVariants.{Supply, Input, Plain}
use Rattle.vrt_model.specs.declared.design.Design.{Design}
use Rattle.vrt_model.specs.declared.design.Kind.TheVariants.{N, P}
use Rattle.vrt_model.specs.declared.flat_model.FlatModel.{FlatModel}

-- the inverter
abbrev inv_design : Design
inv_design = design_of (inv_cell ∷ [])

abbrev inv_blif : Blif
inv_blif = record { models = inv_model ∷ [] }

abbrev inv : Comparison
inv = comparison_of inv_design inv_blif base 0 0

inv_pairs : paired_model inv_design inv_blif base 0 ≡ Model 0
inv_pairs = refl

inv_fits : why_paired inv_design inv_blif base 0 0 ≡ None
unfolding flat_circuit_of all_places net_at own_nets global_nets flat_model_of unrolled_of network_names all_models signals_of pairing_of ports_fault groups_of variables_of
inv_fits = refl

inv_circuit : inv.circuit ≡ record {
  nets =
      record { name = codes "gnd"; kind = Supply false } ∷ record { name = codes "vdd"; kind = Supply true } ∷ record { name = codes "a"; kind = Input } ∷ record { name = codes "y"; kind = Plain } ∷ [];
  devices =
      record { name = codes "m1"; kind = P; gate = record { 0 = 2 }; left = record { 0 = 3 }; right = record { 0 = 1 }; level = 6; keeper = false }
      ∷ record { name = codes "m2"; kind = N; gate = record { 0 = 2 }; left = record { 0 = 3 }; right = record { 0 = 0 }; level = 6; keeper = false } ∷ [];
  holds = [];
  instances = [];
  wholes = [];
  source = 8;
}
unfolding flat_circuit_of all_places net_at own_nets global_nets flat_model_of unrolled_of network_names all_models signals_of pairing_of groups_of
inv_circuit = refl

-- two inverters in a row: a path name for the inner instance's devices, and no inner net
abbrev buf : Comparison
buf = comparison_of (design_of (inv_cell ∷ buf_cell ∷ [])) inv_blif base 1 0

buf_nets : map (λ (n : FlatNet). n.name) buf.circuit.nets ≡ codes "gnd" ∷ codes "vdd" ∷ codes "a" ∷ codes "y" ∷ codes "m" ∷ []
unfolding flat_circuit_of all_places net_at own_nets global_nets flat_model_of unrolled_of network_names all_models signals_of pairing_of
buf_nets = refl

buf_devices : map (λ (d : Device). d.name) buf.circuit.devices ≡ codes "xi0/m1" ∷ codes "xi0/m2" ∷ codes "xi1/m1" ∷ codes "xi1/m2" ∷ []
unfolding flat_circuit_of all_places net_at own_nets global_nets flat_model_of unrolled_of network_names all_models signals_of pairing_of
buf_devices = refl

buf_gates : map (λ (d : Device). d.gate.0) buf.circuit.devices ≡ 2 ∷ 2 ∷ 4 ∷ 4 ∷ []
unfolding flat_circuit_of all_places net_at own_nets global_nets flat_model_of unrolled_of network_names all_models signals_of pairing_of
buf_gates = refl

-- a counter: holds inside an instance, whose match lines lead up to the checked cell's latch
abbrev cnt_design : Design
cnt_design = design_of (inv_cell ∷ dff_cell ∷ cnt_cell ∷ [])

abbrev cnt_blif : Blif
cnt_blif = record { models = inv_model ∷ cnt_model ∷ [] }

abbrev cnt : Comparison
cnt = comparison_of cnt_design cnt_blif cnt_rules 2 1

cnt_fits : why_paired cnt_design cnt_blif cnt_rules 2 1 ≡ None
unfolding flat_circuit_of all_places net_at own_nets global_nets flat_model_of unrolled_of network_names all_models signals_of pairing_of ports_fault groups_of variables_of
cnt_fits = refl

cnt_nets : map (λ (n : FlatNet). n.name) cnt.circuit.nets
    ≡ codes "gnd" ∷ codes "vdd" ∷ codes "clk" ∷ codes "q" ∷ codes "qn" ∷ codes "x1/cb" ∷ codes "x1/l1" ∷ codes "x1/n1" ∷ codes "x1/l2" ∷ []
unfolding flat_circuit_of all_places net_at own_nets global_nets flat_model_of unrolled_of network_names all_models signals_of pairing_of
cnt_nets = refl

cnt_holds : cnt.circuit.holds
    ≡ record { net = record { 0 = 6 }; size = 1; end = Latch None (codes "q#m"); inverted = false; enters = [] }
    ∷ record { net = record { 0 = 8 }; size = 1; end = Latch None (codes "q"); inverted = true; enters = [] } ∷ []
unfolding flat_circuit_of all_places net_at own_nets global_nets flat_model_of unrolled_of network_names all_models signals_of pairing_of
cnt_holds = refl

cnt_instances : cnt.circuit.instances
    ≡ record { path = codes "x1"; cell = 1; ports = record { 0 = 4 } ∷ record { 0 = 2 } ∷ record { 0 = 3 } ∷ [] }
    ∷ record { path = codes "x2"; cell = 0; ports = record { 0 = 3 } ∷ record { 0 = 4 } ∷ [] } ∷ []
unfolding flat_circuit_of all_places net_at own_nets global_nets flat_model_of unrolled_of network_names all_models signals_of pairing_of
cnt_instances = refl

cnt_signals : cnt.model.signals ≡ codes "clk" ∷ codes "q" ∷ codes "qn" ∷ []
unfolding flat_model_of unrolled_of network_names all_models signals_of
cnt_signals = refl

cnt_groups : cnt.groups
    ≡ record { members = record { hold = 0; inverted = false } ∷ []; element = Some 0 } ∷ record { members = record { hold = 1; inverted = true } ∷ []; element = Some 1 } ∷ []
unfolding flat_circuit_of all_places net_at own_nets global_nets flat_model_of unrolled_of network_names all_models signals_of pairing_of groups_of
cnt_groups = refl

cnt_variables : variable_names cnt 0 ≡ codes "q#m" ∷ codes "q" ∷ []
unfolding flat_circuit_of all_places net_at own_nets global_nets flat_model_of unrolled_of network_names all_models signals_of pairing_of groups_of variables_of
cnt_variables = refl

-- the second hold has the inverse of its element
cnt_held : (setting_of cnt 0 (true ∷ true ∷ [])).held 1 ≡ false
unfolding flat_circuit_of all_places net_at own_nets global_nets flat_model_of unrolled_of network_names all_models signals_of pairing_of groups_of variables_of setting_of
cnt_held = refl

-- rows of the off-set: the signal is 1 where none fits
abbrev nand_flat : FlatModel
nand_flat = flat_model_of (record { models = nand_model ∷ [] }) 0

abbrev bits_of : List Bool → ℕ → Bool
bits_of bits n = bit_at bits n

nand_bits : map (λ bits. map (cover_bit (bits_of bits)) nand_flat.covers) ((false ∷ false ∷ []) ∷ (false ∷ true ∷ []) ∷ (true ∷ false ∷ []) ∷ (true ∷ true ∷ []) ∷ [])
    ≡ (true ∷ []) ∷ (true ∷ []) ∷ (true ∷ []) ∷ (false ∷ []) ∷ []
unfolding flat_model_of unrolled_of network_names all_models signals_of
nand_bits = refl

-- the work of a phase of a bus of pairs
pairs_work : work 54 35 51 0 ≡ 4955200
pairs_work = refl

-- the work of an inverter's phase
inv_work : work_of inv inv_blif ≡ 35300
unfolding flat_circuit_of all_places net_at own_nets global_nets flat_model_of unrolled_of network_names all_models signals_of pairing_of
inv_work = refl

-- the cells in order, and the rules of the counter name what is there
cnt_order : cell_order cnt_design ≡ 0 ∷ 1 ∷ 2 ∷ []
cnt_order = refl

cnt_cards : bad_card cnt_design ≡ None
cnt_cards = refl

cnt_names : missing_name cnt_design cnt_rules ≡ None
cnt_names = refl

-- the models of the counter are good, and a cover without a driver is found
cnt_models : driver_fault cnt_blif ≡ None
unfolding signals_of
cnt_models = refl

no_driver : driver_fault (record { models = record inv_model { input_lines = 2 ∷ []; output_lines = 3 ∷ []; covers = cover (codes "b" ∷ []) (codes "y") true [] ∷ [] } ∷ [] }) ≡ Some (Never 4 (codes "b"))
no_driver = refl
