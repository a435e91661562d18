-- The flat circuit of a cell without instances: how large it is, and that it has neither instances nor, without rules, holds.
use Rattle.std.proofs.Common.{◌≡◌, ◌+◌, ◌++◌, ◌∷◌, [], ℕ, zero, suc, List, Bool, false, cond, filter, length, map, Option, Some, None, refl, ap, ◌∙◌, arith, append-nil, length-append}
use Rattle.std.specs.Prelude.{bytes_eq, codes, slice_get, is_none, drop, flat_map}
use Rattle.std.specs.Option.{option_or}
use Rattle.std.proofs.Math.Path.{fun_ext}
use Rattle.std.proofs.lemmas.List.{length-map}
use Rattle.flatten.proofs.CellNets.{IsLeaf, all_names, cell, global_names, is_plain, names_are, own_names, port_names, shared_names}
use Rattle.rule_index.specs.Firsts.{value_in}
use Rattle.flatten.specs.NetTables.{Supplies, names_table}
use Rattle.rule_index.specs.Tables.{declared_supply, supply_in}
use Rattle.name_tables.specs.declared.firsts.FirstValues.{FirstValues}
use Rattle.vrt_model.specs.CellRules.{supply_of}
use Rattle.vrt_model.specs.Comparison.{cell_at}
use Rattle.vrt_model.specs.FlatCircuit.{flat_device, flat_devices, flat_instance, flat_instances, flat_nets, kind_by, own_flat_nets, plain_net, port_nets_of}
use Rattle.vrt_model.specs.Unrolled.{Place, Top, all_places, deepest, instances_from, own_nets, places_in, top_place}
use Rattle.vrt_model.specs.declared.circuit.FlatNet.{FlatNet}
use Rattle.vrt_model.specs.declared.design.Design.{Design}
use Rattle.vrt_model.specs.declared.design.InstanceCard.{InstanceCard}
use Rattle.vrt_model.specs.declared.pairing.PortRole.{PortRole}
use Rattle.vrt_model.specs.declared.rules.Rules.{Rules}

-- ---- what tables say

-- which supply a name is
pub supplies_are : (rules : Rules) (supplies : FirstValues Bool) → ((name : List ℕ) → value_in supplies name ≡ declared_supply rules.supplies name)
    → supply_in supplies ≡ supply_of rules
supplies_are rules supplies are = fun_ext (λ name. ap (λ (o : Option Bool). option_or o (cond (bytes_eq name (codes "0")) (Some false) None)) (are name))

-- ---- the cell is the one place

alone_in : (t : Top) (depth : ℕ) (at : Place) → (cell_at t.design at.cell).instances ≡ [] → places_in t depth at ≡ at ∷ []
alone_in t zero at none = refl
alone_in t (suc depth) at none =
    ap (λ (is : List InstanceCard). at ∷ flat_map (places_in t depth) (instances_from t at depth (at.base + length (own_nets t.design t.rules (cell_at t.design at.cell))) is)) none

module _ (design : Design) (rules : Rules) (k : ℕ) (leaf : IsLeaf design k) (roles : List PortRole) where
  abbrev pub top : Top
  top = record { design = design; rules = rules; cell = k; roles = roles }

  abbrev pub place : Place
  place = top_place top

  pub one_place : all_places top ≡ place ∷ []
  unfolding all_places
  one_place = alone_in top deepest place leaf.no_instances

  -- a list for each place is that of the one place
  pub over_places : {X : Type 0} (f : Place → List X) → flat_map f (all_places top) ≡ f place
  over_places {X} f = ap (flat_map f) one_place ∙ append-nil (f place)

  abbrev ports : List (List ℕ)
  ports = (cell design rules k leaf).ports

  -- ---- nets

  abbrev P : List (List ℕ)
  P = port_names design rules k leaf

  abbrev G : List (List ℕ)
  G = global_names design rules k leaf

  abbrev O : List (List ℕ)
  O = own_names design rules k leaf

  -- the nets of ports of which the first has this supply
  abbrev nets_with : Option Bool → FlatNet → List FlatNet → List FlatNet
  nets_with o net rest =
      elim o [
        | None ↦ net ∷ rest
        | Some value ↦ rest
      ]

  abbrev first_net : List ℕ → List PortRole → FlatNet
  first_net name rest = record { name = name; kind = kind_by (slice_get rest 0) }

  port_count : (names : List (List ℕ)) (rest : List PortRole) → length (port_nets_of rules names rest) ≡ length (filter (is_plain (supply_of rules)) names)
  port_count [] rest = refl
  port_count (x ∷ xs) rest = by_test (supply_of rules x) (port_count xs (drop 1 rest)) where
    by_test : (o : Option Bool) → length (port_nets_of rules xs (drop 1 rest)) ≡ length (filter (is_plain (supply_of rules)) xs)
        → length (nets_with o (first_net x rest) (port_nets_of rules xs (drop 1 rest)))
        ≡ length (cond (is_none o) (x ∷ filter (is_plain (supply_of rules)) xs) (filter (is_plain (supply_of rules)) xs))
    by_test None e = ap suc e
    by_test (Some value) e = e

  pub net_count : length (flat_nets top) ≡ 2 + length (all_names design rules k leaf)
  net_count =
      let of_ports = port_nets_of rules ports roles in
      let shared = map plain_net G in
      let own = flat_map (own_flat_nets top) (all_places top) in
      let a = length-append (of_ports ++ shared) own in
      let b = length-append of_ports shared in
      let c = port_count ports roles in
      let d = length-map G plain_net in
      let e : length own ≡ length O = ap length (over_places (own_flat_nets top)) ∙ length-map O plain_net in
      let f = length-append (shared_names design rules k leaf) O in
      let g = length-append P G in
      omega (arith, a, b, c, d, e, f, g)

  -- ---- devices

  pub device_count : length (flat_devices top) ≡ length (cell design rules k leaf).devices
  device_count =
      ap length (over_places (λ (at : Place). map (flat_device top at) (cell_at design at.cell).devices)) ∙ length-map (cell design rules k leaf).devices (flat_device top place)

  -- ---- no holds, no instances

  pub instances_are : flat_instances top ≡ []
  instances_are = ap (λ (ps : List Place). map flat_instance (drop 1 ps)) one_place

  -- ---- by tables

  pub table_names : (supplies : FirstValues Bool) (names : List (List ℕ)) → ((name : List ℕ) → value_in supplies name ≡ declared_supply rules.supplies name)
      → names ≡ names_table (supply_in supplies) design.globals (cell design rules k leaf) → names ≡ all_names design rules k leaf
  table_names supplies names are is =
      is ∙ ap (λ (s : Supplies). names_table s design.globals (cell design rules k leaf)) (supplies_are rules supplies are) ∙ names_are design rules k leaf
