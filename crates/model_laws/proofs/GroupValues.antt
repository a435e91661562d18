-- Further values: groups of two holds, named ports, match lines without an element, pairing, order, texts.
use Rattle.std.specs.Prelude.{◌≡◌, ℕ, Bool, true, false, [], ◌∷◌, map, Some, None, codes, refl, option_map}
use Rattle.std.specs.Fmt.{digits}
use Rattle.model_laws.specs.Cells.{clocked, cnt_cell, dff_cell, instance, inv_cell, inv_model, upright}
use Rattle.vrt_model.proofs.Cells.{base, cover, design_of, gnd, model_of, n_device, p_device, vdd}
use Rattle.vrt_model.specs.Budget.{constraints_size}
use Rattle.vrt_model.specs.Comparison.{Comparison, is_observed}
use Rattle.vrt_model.specs.Expressions.{value_by}
use Rattle.vrt_model.specs.Faults.{port_bit}
use Rattle.vrt_model.specs.FlatBlif.{all_models, flat_model_of, network_names, signals_of, unrolled_of}
use Rattle.vrt_model.specs.FlatCircuit.{flat_circuit_of}
use Rattle.vrt_model.specs.Groups.{groups_of}
use Rattle.vrt_model.specs.Held.{setting_of, variable_names}
use Rattle.vrt_model.specs.Hierarchy.{Missing, cell_order, missing_name}
use Rattle.vrt_model.specs.Lists.{bit_at}
use Rattle.vrt_model.specs.PairedPorts.{pairing_of, ports_fault}
use Rattle.vrt_model.specs.Places.{comes_before, named_nets, standing}
use Rattle.vrt_model.specs.Unrolled.{all_places, global_nets, net_at, own_nets}
use Rattle.vrt_model.specs.Unsupported.{comparison_of, why_paired}
use Rattle.vrt_model.specs.Variables.{variables_of}
use Rattle.vrt_model.specs.VerdictText.{verdict_line}
use Rattle.vrt_model.specs.declared.blif.Blif.{Blif}
use Rattle.vrt_model.specs.declared.blif.LatchKind.TheVariants.{Ah}
use Rattle.vrt_model.specs.declared.circuit.FlatInstance.{FlatInstance}
use Rattle.vrt_model.specs.declared.circuit.Hold.{Hold}
use Rattle.vrt_model.specs.declared.circuit.HoldEnd.TheVariants.{Latch}
use Rattle.vrt_model.specs.declared.circuit.NetKind.TheVariants.{Plain}
use Rattle.vrt_model.specs.declared.design.Design.{Design}
use Rattle.vrt_model.specs.declared.rules.Expr.{Expr}
use Rattle.vrt_model.specs.declared.rules.Expr.TheVariants.{Port}
use Rattle.vrt_model.specs.declared.rules.Rules.{Rules}
use Rattle.vrt_model.specs.declared.verdict.FaultKind.TheVariants.{Fight, Constraint}
use Rattle.vrt_model.specs.declared.verdict.Verdict.TheVariants.{Budget, Unsupported}
use Rattle.vrt_model.specs.declared.verdict.Why.TheVariants.{Cycle, OutputIsInput, TooLarge, Unmatched}

-- two holds that match one latch of an inner cell are one group, named by the lesser net
abbrev two_design : Design
two_design = design_of (record {
  line = 2;
  name = codes "two";
  ports = codes "d" ∷ codes "clk" ∷ codes "q" ∷ [];
  devices =
      n_device (codes "m1") (codes "d") (codes "clk") (codes "l1") ∷ n_device (codes "m2") gnd (codes "clk") (codes "l2") ∷ p_device (codes "m3") (codes "qb") (codes "l1") vdd
      ∷ n_device (codes "m4") (codes "qb") (codes "l1") gnd ∷ p_device (codes "m5") (codes "q") (codes "qb") vdd ∷ n_device (codes "m6") (codes "q") (codes "qb") gnd ∷ [];
  instances = [];
} ∷ record {
  line = 10;
  name = codes "par";
  ports = codes "d" ∷ codes "clk" ∷ codes "y" ∷ [];
  devices = [];
  instances = instance (codes "x1") (codes "d" ∷ codes "clk" ∷ codes "y" ∷ []) (codes "two") ∷ [];
} ∷ [])

abbrev two_rules : Rules
two_rules =
    let rules = clocked (codes "low") (codes "high") in
    record rules {
      clockports = record { line = 8; cell = codes "two"; port = codes "clk"; clock = upright } ∷ record { line = 9; cell = codes "par"; port = codes "clk"; clock = upright } ∷ [];
      holds = record { line = 10; cell = codes "two"; net = codes "l1"; size = 1 } ∷ record { line = 11; cell = codes "two"; net = codes "l2"; size = 1 } ∷ [];
      matches =
          record { line = 12; cell = codes "two"; net = codes "l1"; latch = codes "q"; inverted = false } ∷ record { line = 13; cell = codes "two"; net = codes "l2"; latch = codes "q"; inverted = false } ∷ [];
      observes = record { line = 14; cell = codes "par"; port = codes "y"; phases = 1 ∷ [] } ∷ [];
    }

abbrev par_blif : Blif
par_blif = record {
  models =
      model_of (codes "two") (codes "d" ∷ codes "clk" ∷ []) (codes "q" ∷ []) [] (record { line = 4; input = codes "d"; output = codes "q"; kind = Some Ah; control = Some (codes "clk"); init = 3 } ∷ []) []
      ∷ model_of (codes "par") (codes "d" ∷ codes "clk" ∷ []) (codes "y" ∷ []) (cover (codes "d" ∷ []) (codes "y") true (codes "1" ∷ []) ∷ []) [] [] ∷ [];
}

abbrev par : Comparison
par = comparison_of two_design par_blif two_rules 1 1

par_fits : why_paired two_design par_blif two_rules 1 1 ≡ None
unfolding flat_circuit_of all_places net_at own_nets global_nets flat_model_of unrolled_of network_names all_models signals_of pairing_of ports_fault groups_of variables_of
par_fits = refl

par_groups : par.groups ≡ record { members = record { hold = 0; inverted = false } ∷ record { hold = 1; inverted = false } ∷ []; element = None } ∷ []
unfolding flat_circuit_of all_places net_at own_nets global_nets flat_model_of unrolled_of network_names all_models signals_of pairing_of groups_of
par_groups = refl

par_ends : map (λ (h : Hold). h.end) par.circuit.holds ≡ Latch (Some 0) (codes "q") ∷ Latch (Some 0) (codes "q") ∷ []
unfolding flat_circuit_of all_places net_at own_nets global_nets flat_model_of unrolled_of network_names all_models signals_of pairing_of
par_ends = refl

par_variables : variable_names par 1 ≡ codes "d" ∷ codes "x1/l1" ∷ []
unfolding flat_circuit_of all_places net_at own_nets global_nets flat_model_of unrolled_of network_names all_models signals_of pairing_of groups_of variables_of
par_variables = refl

-- both holds have the group's bit
par_held : map (setting_of par 1 (true ∷ true ∷ [])).held (0 ∷ 1 ∷ []) ≡ true ∷ true ∷ []
unfolding flat_circuit_of all_places net_at own_nets global_nets flat_model_of unrolled_of network_names all_models signals_of pairing_of groups_of variables_of setting_of
par_held = refl

-- in the inner cell they reach the latch
two_groups : (comparison_of two_design par_blif two_rules 0 0).groups ≡ record { members = record { hold = 0; inverted = false } ∷ record { hold = 1; inverted = false } ∷ []; element = Some 0 } ∷ []
unfolding flat_circuit_of all_places net_at own_nets global_nets flat_model_of unrolled_of network_names all_models signals_of pairing_of groups_of
two_groups = refl

-- a match line that names no element
two_unmatched : why_paired two_design par_blif (let rules = two_rules in record rules {
  matches =
      record { line = 12; cell = codes "two"; net = codes "l1"; latch = codes "q"; inverted = false } ∷ record { line = 13; cell = codes "two"; net = codes "l2"; latch = codes "r"; inverted = false } ∷ [];
}) 0 0 ≡ Some (Unmatched (codes "r"))
unfolding flat_circuit_of all_places net_at own_nets global_nets flat_model_of unrolled_of network_names all_models signals_of pairing_of ports_fault groups_of variables_of
two_unmatched = refl

-- an instance with an `assume`: its ports are observed, its named ports have rank 0, and its place comes before the fight of the net above them
abbrev mux_design : Design
mux_design = design_of (record {
  line = 2;
  name = codes "mux";
  ports = codes "a" ∷ codes "b" ∷ codes "s0" ∷ codes "s1" ∷ codes "y" ∷ [];
  devices = n_device (codes "m1") (codes "a") (codes "s0") (codes "y") ∷ n_device (codes "m2") (codes "b") (codes "s1") (codes "y") ∷ [];
  instances = [];
} ∷ record {
  line = 6;
  name = codes "top";
  ports = codes "a" ∷ codes "b" ∷ codes "s" ∷ codes "y" ∷ [];
  devices = [];
  instances = instance (codes "x1") (codes "a" ∷ codes "b" ∷ codes "s" ∷ codes "s" ∷ codes "y" ∷ []) (codes "mux") ∷ [];
} ∷ [])

abbrev top_blif : Blif
top_blif = record { models = model_of (codes "top") (codes "a" ∷ codes "b" ∷ codes "s" ∷ []) (codes "y" ∷ []) (cover (codes "a" ∷ codes "b" ∷ codes "s" ∷ []) (codes "y") true (codes "111" ∷ []) ∷ []) [] [] ∷ [] }

abbrev mux_rules : Expr → Rules
mux_rules e = record base { assumes = record { line = 5; cell = codes "mux"; phase = None; expression = e } ∷ [] }

abbrev mux_top : Comparison
mux_top = comparison_of mux_design top_blif (mux_rules (Port (codes "s0"))) 1 0

mux_observed : map (is_observed mux_top 0) (0 ∷ 1 ∷ 2 ∷ 3 ∷ 4 ∷ 5 ∷ []) ≡ false ∷ false ∷ true ∷ true ∷ true ∷ true ∷ []
unfolding flat_circuit_of all_places net_at own_nets global_nets flat_model_of unrolled_of network_names all_models signals_of pairing_of groups_of is_observed
mux_observed = refl

mux_named : named_nets mux_top 0 0 ≡ 4 ∷ []
unfolding flat_circuit_of all_places net_at own_nets global_nets flat_model_of unrolled_of network_names all_models signals_of pairing_of groups_of
mux_named = refl

abbrev bit_count : Bool → ℕ
bit_count true = 1
bit_count false = 0

abbrev rank_of : ℕ → ℕ
rank_of n = bit_count (bit_at (false ∷ false ∷ false ∷ false ∷ false ∷ true ∷ []) n)

mux_first : comes_before (standing mux_top 0 rank_of (λ n. n) Constraint 0) (standing mux_top 0 rank_of (λ n. n) Fight 5) ≡ true
unfolding flat_circuit_of all_places net_at own_nets global_nets flat_model_of unrolled_of network_names all_models signals_of pairing_of groups_of
mux_first = refl

mux_breaks : map (λ (i : FlatInstance). value_by (port_bit mux_design (λ n. Some false) i) (Port (codes "s0"))) mux_top.circuit.instances ≡ Some false ∷ []
unfolding flat_circuit_of all_places net_at own_nets global_nets flat_model_of unrolled_of network_names all_models signals_of pairing_of groups_of
mux_breaks = refl

-- one name in the constraint of the one instance
mux_constraints : constraints_size mux_top ≡ 1
unfolding flat_circuit_of all_places net_at own_nets global_nets flat_model_of unrolled_of network_names all_models signals_of pairing_of groups_of
mux_constraints = refl

-- the port of an `assume` must be there
mux_missing : option_map (λ (m : Missing). m.line) (missing_name mux_design (mux_rules (Port (codes "s2")))) ≡ Some 5
mux_missing = refl

-- an output that is an input
out_in : why_paired (design_of (inv_cell ∷ [])) (record { models = record inv_model { outputs = codes "y" ∷ codes "a" ∷ [] } ∷ [] }) base 0 0 ≡ Some (OutputIsInput (codes "a"))
unfolding flat_circuit_of all_places net_at own_nets global_nets flat_model_of unrolled_of network_names all_models signals_of pairing_of ports_fault groups_of variables_of
out_in = refl

-- signals in upper case pair with the ports in lower case
upper_fits : why_paired (design_of (inv_cell ∷ [])) (record {
  models = model_of (codes "INV") (codes "A" ∷ []) (codes "Y" ∷ []) (cover (codes "A" ∷ []) (codes "Y") true (codes "0" ∷ []) ∷ []) [] [] ∷ [];
}) base 0 0 ≡ None
unfolding flat_circuit_of all_places net_at own_nets global_nets flat_model_of unrolled_of network_names all_models signals_of pairing_of ports_fault groups_of variables_of
upper_fits = refl

-- cells by depth, then in the order of the file
by_depth : cell_order (design_of (cnt_cell ∷ inv_cell ∷ dff_cell ∷ [])) ≡ 1 ∷ 2 ∷ 0 ∷ []
by_depth = refl

-- lines
cycle_line : verdict_line (codes "ring") (Unsupported (Cycle 0 (record { 0 = 1 } ∷ []))) base
    (Some (record { nets = record { name = codes "gnd"; kind = Plain } ∷ record { name = codes "y"; kind = Plain } ∷ []; devices = []; holds = []; instances = []; wholes = []; source = 8 })) None
    ≡ codes "cell ring unsupported cycle y phase all"
cycle_line = refl

budget_line : verdict_line (codes "andor17") (Budget 65536 0) base None None ≡ codes "cell andor17 budget 65536 phase all"
unfolding digits
budget_line = refl

large_line : verdict_line (codes "k15") (Unsupported (TooLarge 32771)) base None None ≡ codes "cell k15 unsupported large 32771"
unfolding digits
large_line = refl
