-- The nets of a cell as they are made by look-ups are those of the cell.
use Rattle.std.proofs.Common.{◌≡◌, ◌&&◌, [], ℕ, not, List, Bool, true, map, filter, Option, Some, None, refl, ap, ap₂, sym, ◌∙◌}
use Rattle.std.specs.Prelude.{All, bytes_eq, is_none, is_some, option_map, unwrap_or}
use Rattle.std.specs.Option.{option_or}
use Rattle.std.proofs.Math.Path.{fun_ext}
use Rattle.std.proofs.lemmas.Bool.{and_parts}
use Rattle.names.proofs.ApartLaws.{once_is_all}
use Rattle.names.proofs.FilterLaws.{filter_same, has_name_filter}
use Rattle.names.proofs.NameLaws.{names_once, once_has_same}
use Rattle.net_tables.proofs.OwnLaws.{owns_are}
use Rattle.names.proofs.PlaceLaws.{any_placed, position_same}
use Rattle.net_tables.specs.Names.{AreShared, cell_in, names_by, net_by, nets_by, shared_in, with_owns}
use Rattle.net_tables.specs.Nets.{net_in, nets_in, shared_net}
use Rattle.net_tables.specs.declared.shared.SharedNames.{SharedNames}
use Rattle.net_tables.specs.declared.types.CellNames.{CellNames}
use Rattle.net_tables.specs.declared.types.CellNet.{CellNet}
use Rattle.net_tables.specs.declared.types.CellNet.TheVariants.{Supply, Port, Global, Own}
use Rattle.net_tables.specs.declared.types.CellNets.{CellNets}
use Rattle.net_tables.specs.declared.types.DeviceNets.{DeviceNets}
use Rattle.net_tables.specs.declared.types.InstanceNets.{InstanceNets}
use Rattle.vrt_model.proofs.Members.{all_among}
use Rattle.vrt_model.specs.CellRules.{supply_of}
use Rattle.vrt_model.specs.Inputs.{AllApart, IsCell}
use Rattle.vrt_model.specs.Lists.{distinct, has_name, place_of}
use Rattle.vrt_model.specs.Unrolled.{cell_named, is_own, mentions, own_nets}
use Rattle.vrt_model.specs.declared.design.Cell.{Cell}
use Rattle.vrt_model.specs.declared.design.Design.{Design}
use Rattle.vrt_model.specs.declared.design.DeviceCard.{DeviceCard}
use Rattle.vrt_model.specs.declared.design.InstanceCard.{InstanceCard}
use Rattle.vrt_model.specs.declared.rules.Rules.{Rules}
use Rattle.vrt_model.proofs.Lists.{map_same}

-- ---- which names are own nets

abbrev by_kind : Option Bool → Option ℕ → Option ℕ → Option CellNet
by_kind s p g = option_or (option_map (λ (value : Bool). Supply value) s) (option_or (option_map (λ (k : ℕ). Port k) p) (option_map (λ (j : ℕ). Global j) g))

none_of_three : (s : Option Bool) (p g : Option ℕ) → is_none (by_kind s p g) ≡ ((not (is_some s) && not (is_some p)) && not (is_some g))
none_of_three (Some value) p g = refl
none_of_three None (Some k) g = refl
none_of_three None None (Some j) = refl
none_of_three None None None = refl

is_nothing : (o : Option CellNet) → is_none o ≡ true → o ≡ None
is_nothing None e = refl
is_nothing (Some net) e = cc

-- a name is an own net where it is nothing else
pub own_test : (design : Design) (rules : Rules) (cell : Cell) (name : List ℕ)
    → is_none (shared_net (supply_of rules name) cell.ports design.globals name) ≡ is_own design rules cell name
own_test design rules cell name =
    none_of_three (supply_of rules name) (place_of cell.ports name) (place_of design.globals name)
    ∙ ap₂ (λ (p g : Bool). (not (is_some (supply_of rules name)) && not p) && not g) (sym (any_placed (bytes_eq name) cell.ports)) (sym (any_placed (bytes_eq name) design.globals))

-- an own net that has a place is nothing else
pub own_alone : (design : Design) (rules : Rules) (cell : Cell) (name : List ℕ) (k : ℕ) → place_of (own_nets design rules cell) name ≡ Some k
    → shared_net (supply_of rules name) cell.ports design.globals name ≡ None
unfolding own_nets
own_alone design rules cell name k e =
    let there : has_name (own_nets design rules cell) name ≡ true = any_placed (bytes_eq name) (own_nets design rules cell) ∙ ap is_some e in
    let passes = sym (has_name_filter (is_own design rules cell) (mentions cell) name) ∙ sym (once_has_same (filter (is_own design rules cell) (mentions cell)) name) ∙ there in
    is_nothing (shared_net (supply_of rules name) cell.ports design.globals name)
    (own_test design rules cell name ∙ (and_parts (is_own design rules cell name) (has_name (mentions cell) name) passes).0)

-- ---- one cell

module _ (design : Design) (rules : Rules) (shared : SharedNames) (are : AreShared design rules shared) where
  cell_is : (name : List ℕ) → cell_in shared name ≡ cell_named design name
  cell_is name =
      ap (λ (names : List (List ℕ)). unwrap_or (place_of names name) 0) are.cells_are
      ∙ ap (λ (o : Option ℕ). unwrap_or o 0) (position_same (λ (c : Cell). c.name) name design.cells)

  module _ (cell : Cell) where
    abbrev other : List ℕ → Option CellNet
    other name = shared_net (supply_of rules name) cell.ports design.globals name

    other_is : (name : List ℕ) → shared_in shared cell.ports name ≡ other name
    other_is name = ap₂ (λ (s : Option Bool) (gs : List (List ℕ)). shared_net s cell.ports gs name) (are.supplies_are name) are.globals_are

    own_are : with_owns (shared_in shared cell.ports) [] (mentions cell) ≡ own_nets design rules cell
    unfolding own_nets
    own_are =
        owns_are (shared_in shared cell.ports) [] (mentions cell)
        ∙ names_once (filter (λ name. is_none (shared_in shared cell.ports name)) (mentions cell))
        ∙ ap distinct (filter_same (λ name. is_none (shared_in shared cell.ports name)) (is_own design rules cell) (mentions cell)
        (λ i y e. ap is_none (other_is y) ∙ own_test design rules cell y))

    abbrev names : CellNames
    names = record { ports = cell.ports; own = own_nets design rules cell }

    -- what a name is
    pub net_is : (name : List ℕ) → net_by shared names name ≡ net_in design rules cell name
    unfolding net_in
    net_is name = by_place (place_of (own_nets design rules cell) name) refl where
      by_place : (o : Option ℕ) → place_of (own_nets design rules cell) name ≡ o
          → elim o [ None ↦ unwrap_or (shared_in shared cell.ports name) (Own 0) | Some k ↦ Own k ] ≡ unwrap_or (other name) (Own (unwrap_or o 0))
      by_place None e = ap (λ (o : Option CellNet). unwrap_or o (Own 0)) (other_is name)
      by_place (Some k) e = sym (ap (λ (o : Option CellNet). unwrap_or o (Own k)) (own_alone design rules cell name k e))

    names_are : AllApart bytes_eq cell.ports → names_by shared cell ≡ names
    names_are apart =
        ap (λ (ports : List (List ℕ)). let all : CellNames = record { ports = ports; own = with_owns (shared_in shared ports) [] (mentions cell) } in all)
        (names_once cell.ports ∙ once_is_all cell.ports apart)
        ∙ ap (λ (own : List (List ℕ)). let all : CellNames = record { ports = cell.ports; own = own } in all) own_are

    -- cards, by what their names are and by the numbers of their cells
    abbrev device_of : (List ℕ → CellNet) → DeviceCard → DeviceNets
    device_of net card = record { drain = net card.drain; gate = net card.gate; source = net card.source }

    abbrev instance_of : (List ℕ → CellNet) → (List ℕ → ℕ) → InstanceCard → InstanceNets
    instance_of net number card = record { cell = number card.cell; nets = map net card.nets }

    abbrev nets_of : CellNames → (List ℕ → CellNet) → (List ℕ → ℕ) → CellNets
    nets_of all net number = record {
      names = all;
      devices = map (device_of net) cell.devices;
      instances = map (instance_of net number) cell.instances;
    }

    pub nets_are : AllApart bytes_eq cell.ports → nets_by shared cell ≡ nets_in design rules cell
    nets_are apart =
        ap (λ (all : CellNames). nets_of all (net_by shared all) (cell_in shared)) (names_are apart)
        ∙ ap₂ (λ (net : List ℕ → CellNet) (number : List ℕ → ℕ). nets_of names net number) (fun_ext net_is) (fun_ext cell_is)

  -- ---- all cells

  pub all_are : All IsCell design.cells → map (nets_by shared) design.cells ≡ map (nets_in design rules) design.cells
  all_are cells =
      map_same (nets_by shared) (nets_in design rules) design.cells (λ i cell e. nets_are cell (all_among IsCell design.cells cell cells (i, e)).ports)
