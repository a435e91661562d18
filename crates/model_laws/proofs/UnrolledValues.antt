-- Values: nets, devices, instances and holds of a circuit three cells deep, with global nets and match lines; supply ties.
use Rattle.std.specs.Prelude.{◌≡◌, ℕ, true, false, List, [], ◌∷◌, map, Some, None, codes, refl}
use Rattle.model_laws.specs.Cells.{clocked, instance}
use Rattle.vrt_model.proofs.Cells.{base, design_of, gnd, n_device, p_device, vdd}
use Rattle.vrt_model.specs.FlatCircuit.{flat_circuit_of, flat_circuit}
use Rattle.vrt_model.specs.Unrolled.{all_places, global_nets, net_at, own_nets}
use Rattle.vrt_model.specs.Unsupported.{supply_tie, top_before}
use Rattle.vrt_model.specs.declared.circuit.Circuit.{Circuit}
use Rattle.vrt_model.specs.declared.circuit.Device.{Device}
use Rattle.vrt_model.specs.declared.circuit.FlatInstance.{FlatInstance}
use Rattle.vrt_model.specs.declared.circuit.FlatNet.{FlatNet}
use Rattle.vrt_model.specs.declared.circuit.Hold.{Hold}
use Rattle.vrt_model.specs.declared.circuit.HoldEnd.TheVariants.{Own, Latch}
use Rattle.vrt_model.specs.declared.design.Cell.{Cell}
use Rattle.vrt_model.specs.declared.design.Design.{Design}
use Rattle.vrt_model.specs.declared.pairing.Pairing.{Pairing}
use Rattle.vrt_model.specs.declared.pairing.PortRole.TheVariants.{Supply, Input, Output}
use Rattle.vrt_model.specs.declared.rules.Rules.{Rules}

-- leaf: ports p q, inner net n, global g; mid: ports p g, instances of leaf; top: ports g a and the supply name 0
abbrev leaf : Cell
leaf = record {
  line = 2;
  name = codes "leaf";
  ports = codes "p" ∷ codes "q" ∷ codes "vdd" ∷ [];
  devices = n_device (codes "m1") (codes "q") (codes "p") (codes "n") ∷ n_device (codes "m2") (codes "n") (codes "g") (codes "0") ∷ [];
  instances = [];
}

abbrev mid : Cell
mid = record {
  line = 6;
  name = codes "mid";
  ports = codes "p" ∷ codes "g" ∷ [];
  devices = p_device (codes "m1") (codes "g") (codes "u") vdd ∷ [];
  instances = instance (codes "x1") (codes "p" ∷ codes "u" ∷ codes "vdd" ∷ []) (codes "leaf") ∷ instance (codes "x2") (codes "u" ∷ codes "w" ∷ codes "vdd" ∷ []) (codes "leaf") ∷ [];
}

abbrev none : Cell
none = record { line = 9; name = codes "none"; ports = []; devices = n_device (codes "m1") (codes "k") (codes "k") gnd ∷ []; instances = [] }

abbrev top : Cell
top = record {
  line = 12;
  name = codes "top";
  ports = codes "g" ∷ codes "0" ∷ codes "a" ∷ codes "vdd" ∷ [];
  devices = n_device (codes "m1") (codes "a") (codes "h") (codes "r") ∷ [];
  instances = instance (codes "x1") (codes "a" ∷ codes "g" ∷ []) (codes "mid") ∷ instance (codes "x2") [] (codes "none") ∷ instance (codes "x3") (codes "a" ∷ codes "s" ∷ []) (codes "mid") ∷ [];
}

abbrev design : Design
design = record { cells = leaf ∷ mid ∷ none ∷ top ∷ []; globals = codes "h" ∷ codes "g" ∷ codes "zz" ∷ codes "vdd" ∷ []; models = [] }

abbrev pairing : Pairing
pairing = record { model = 0; ports = Input 0 ∷ Supply false ∷ Output 1 ∷ Supply true ∷ []; clocked = [] }

abbrev c : Rules → Circuit
c rules = flat_circuit design rules 3 pairing

nets_c : map (λ (n : FlatNet). n.name) (c base).nets
    ≡ codes "gnd" ∷ codes "vdd" ∷ codes "g" ∷ codes "a" ∷ codes "h" ∷ codes "g" ∷ codes "r" ∷ codes "s"
    ∷ codes "x1/u" ∷ codes "x1/w" ∷ codes "x1/x1/n" ∷ codes "x1/x2/n" ∷ codes "x2/k" ∷ codes "x3/u" ∷ codes "x3/w" ∷ codes "x3/x1/n" ∷ codes "x3/x2/n" ∷ []
unfolding flat_circuit_of all_places net_at own_nets global_nets
nets_c = refl

devs_c : map (λ (d : Device). d.left.0 ∷ d.gate.0 ∷ d.right.0 ∷ []) (c base).devices
    ≡ (3 ∷ 4 ∷ 6 ∷ []) ∷ (2 ∷ 8 ∷ 1 ∷ []) ∷ (8 ∷ 3 ∷ 10 ∷ []) ∷ (10 ∷ 5 ∷ 0 ∷ []) ∷ (9 ∷ 8 ∷ 11 ∷ []) ∷ (11 ∷ 5 ∷ 0 ∷ [])
    ∷ (12 ∷ 12 ∷ 0 ∷ []) ∷ (7 ∷ 13 ∷ 1 ∷ []) ∷ (13 ∷ 3 ∷ 15 ∷ []) ∷ (15 ∷ 5 ∷ 0 ∷ []) ∷ (14 ∷ 13 ∷ 16 ∷ []) ∷ (16 ∷ 5 ∷ 0 ∷ []) ∷ []
unfolding flat_circuit_of all_places net_at own_nets global_nets
devs_c = refl

inst_c : map (λ (i : FlatInstance). i.path) (c base).instances ≡ codes "x1" ∷ codes "x1/x1" ∷ codes "x1/x2" ∷ codes "x2" ∷ codes "x3" ∷ codes "x3/x1" ∷ codes "x3/x2" ∷ []
unfolding flat_circuit_of all_places net_at own_nets global_nets
inst_c = refl

-- holds: leaf n size 3 matched e; leaf q size 2 (falls on u and w); mid u size 1 with enter; top a: hold leaf p falls on a; hold on supply vdd in leaf
abbrev hrules : Rules
hrules =
    let rules = clocked (codes "low") (codes "high") in
    record rules {
      holds =
          record { line = 20; cell = codes "leaf"; net = codes "q"; size = 2 } ∷ record { line = 21; cell = codes "mid"; net = codes "u"; size = 1 }
          ∷ record { line = 22; cell = codes "leaf"; net = codes "n"; size = 3 } ∷ record { line = 23; cell = codes "leaf"; net = codes "p"; size = 2 }
          ∷ record { line = 24; cell = codes "leaf"; net = codes "vdd"; size = 3 } ∷ [];
      matches =
          record { line = 30; cell = codes "leaf"; net = codes "n"; latch = codes "E"; inverted = true } ∷ record { line = 31; cell = codes "leaf"; net = codes "q"; latch = codes "F"; inverted = false } ∷ [];
      instance_matches =
          record { line = 32; cell = codes "mid"; instance = codes "x1"; inner = codes "E"; latch = codes "M"; inverted = true }
          ∷ record { line = 33; cell = codes "mid"; instance = codes "x2"; inner = codes "E"; latch = codes "M2"; inverted = false }
          ∷ record { line = 34; cell = codes "top"; instance = codes "x1"; inner = codes "M2"; latch = codes "L"; inverted = false }
          ∷ record { line = 35; cell = codes "top"; instance = codes "x3"; inner = codes "M"; latch = codes "L"; inverted = true } ∷ [];
      enters = record { line = 40; cell = codes "leaf"; phase = 1; net = codes "q"; value = true } ∷ record { line = 41; cell = codes "mid"; phase = 0; net = codes "u"; value = false } ∷ [];
    }

abbrev hold_row : Hold → List ℕ
hold_row h = h.net.0 ∷ h.size ∷ []

holds_c : map hold_row (c hrules).holds
    ≡ (1 ∷ 3 ∷ []) ∷ (3 ∷ 2 ∷ []) ∷ (8 ∷ 1 ∷ []) ∷ (9 ∷ 2 ∷ []) ∷ (10 ∷ 3 ∷ []) ∷ (11 ∷ 3 ∷ []) ∷ (13 ∷ 1 ∷ []) ∷ (14 ∷ 2 ∷ []) ∷ (15 ∷ 3 ∷ []) ∷ (16 ∷ 3 ∷ []) ∷ []
unfolding flat_circuit_of all_places net_at own_nets global_nets
holds_c = refl

ends_c : map (λ (h : Hold). h.end) (c hrules).holds
    ≡ Own (record { 0 = 1 }) ∷ Own (record { 0 = 3 }) ∷ Own (record { 0 = 8 }) ∷ Latch (Some 2) (codes "F")
    ∷ Latch (Some 0) (codes "M") ∷ Latch None (codes "L") ∷ Own (record { 0 = 13 }) ∷ Latch (Some 6) (codes "F")
    ∷ Latch None (codes "L") ∷ Latch (Some 4) (codes "M2") ∷ []
unfolding flat_circuit_of all_places net_at own_nets global_nets
ends_c = refl

inv_c : map (λ (h : Hold). h.inverted) (c hrules).holds ≡ false ∷ false ∷ false ∷ false ∷ false ∷ true ∷ false ∷ false ∷ true ∷ true ∷ []
unfolding flat_circuit_of all_places net_at own_nets global_nets
inv_c = refl

-- SupplyTie: none here; `0` tied to g is one
no_tie : supply_tie (top_before design base 3) ≡ None
unfolding all_places net_at own_nets global_nets
no_tie = refl

tie : supply_tie (top_before (design_of (leaf ∷ record { line = 6; name = codes "m"; ports = codes "a" ∷ []; devices = []; instances = instance (codes "x1") (codes "a" ∷ codes "b" ∷ codes "gnd" ∷ []) (codes "leaf") ∷ [] }
    ∷ record { line = 8; name = codes "t"; ports = []; devices = []; instances = instance (codes "y") (codes "k" ∷ []) (codes "m") ∷ [] } ∷ [])) base 2) ≡ Some (codes "y/x1")
unfolding all_places net_at own_nets global_nets
tie = refl

-- the name 0 declared as supply 1
zero_one : supply_tie (top_before design (let r = base in record r { supplies = record { line = 9; value = true; net = codes "0" } ∷ r.supplies }) 3) ≡ None
unfolding all_places net_at own_nets global_nets
zero_one = refl

-- of several at one depth the first in instance order: `leaf` p falls on net a in x1/x1 and in x3/x1
first_place : map (λ (h : Hold). h.end) (c (record base {
  holds = record { line = 23; cell = codes "leaf"; net = codes "p"; size = 2 } ∷ [];
  matches = record { line = 30; cell = codes "leaf"; net = codes "p"; latch = codes "G"; inverted = false } ∷ [];
})).holds ≡ Latch (Some 1) (codes "G") ∷ Latch (Some 2) (codes "G") ∷ Latch (Some 6) (codes "G") ∷ []
unfolding flat_circuit_of all_places net_at own_nets global_nets
first_place = refl

-- two rules of one cell on one net: the first line
first_rule : map hold_row (flat_circuit (design_of (leaf ∷ record { line = 6; name = codes "m"; ports = codes "a" ∷ []; devices = []; instances = instance (codes "x1") (codes "a" ∷ codes "a" ∷ vdd ∷ []) (codes "leaf") ∷ [] } ∷ []))
    (record base { holds = record { line = 20; cell = codes "leaf"; net = codes "q"; size = 3 } ∷ record { line = 21; cell = codes "leaf"; net = codes "p"; size = 1 } ∷ [] }) 1
    (record { model = 0; ports = Input 0 ∷ []; clocked = [] })).holds ≡ (2 ∷ 3 ∷ []) ∷ []
unfolding flat_circuit_of all_places net_at own_nets global_nets
first_rule = refl
