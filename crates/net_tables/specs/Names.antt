-- What is looked up by name, and the nets of a cell as they are made by it.
use Rattle.std.specs.Prelude.{◌≡◌, ℕ, List, [], ◌∷◌, map, Option, Some, None, unwrap_or}
use Rattle.names.specs.Names.{with_name, with_names}
use Rattle.net_tables.specs.Nets.{shared_net}
use Rattle.name_tables.specs.Firsts.{IsFresh as IsFreshSupplies}
use Rattle.net_tables.specs.declared.shared.SharedNames.{SharedNames}
use Rattle.net_tables.specs.declared.types.CellNames.{CellNames}
use Rattle.net_tables.specs.declared.types.CellNet.{CellNet}
use Rattle.net_tables.specs.declared.types.CellNet.TheVariants.{Own}
use Rattle.net_tables.specs.declared.types.CellNets.{CellNets}
use Rattle.net_tables.specs.declared.types.DeviceNets.{DeviceNets}
use Rattle.net_tables.specs.declared.types.InstanceNets.{InstanceNets}
use Rattle.rule_index.specs.Tables.{supply_in}
use Rattle.vrt_model.specs.CellRules.{supply_of}
use Rattle.vrt_model.specs.Lists.{place_of}
use Rattle.vrt_model.specs.Unrolled.{mentions}
use Rattle.vrt_model.specs.declared.design.Cell.{Cell}
use Rattle.vrt_model.specs.declared.design.Design.{Design}
use Rattle.vrt_model.specs.declared.design.DeviceCard.{DeviceCard}
use Rattle.vrt_model.specs.declared.design.InstanceCard.{InstanceCard}
use Rattle.vrt_model.specs.declared.rules.Rules.{Rules}

-- ---- what is the same in every cell

-- no name is there
pub record IsFresh (shared : SharedNames) : Type 0 where
  pub cells : shared.cells ≡ []
  pub supplies : IsFreshSupplies shared.supplies
  pub globals : shared.globals ≡ []

-- the cells, the supplies and the global nets of a netlist and its rules
pub record AreShared (design : Design) (rules : Rules) (shared : SharedNames) : Type 0 where
  pub cells_are : shared.cells ≡ map (λ (c : Cell). c.name) design.cells
  pub supplies_are : (name : List ℕ) → supply_in shared.supplies name ≡ supply_of rules name
  pub globals_are : shared.globals ≡ design.globals

abbrev pub cell_in : SharedNames → List ℕ → ℕ
cell_in shared name = unwrap_or (place_of shared.cells name) 0

abbrev pub shared_in : SharedNames → List (List ℕ) → List ℕ → Option CellNet
shared_in shared ports name = shared_net (supply_in shared.supplies name) ports shared.globals name

-- ---- own nets

-- the own nets with one name more, the last, unless it is there or is something else
abbrev pub with_own : (List ℕ → Option CellNet) → List (List ℕ) → List ℕ → List (List ℕ)
with_own other names name =
    elim (other name) [
      | None ↦ with_name names name
      | Some net ↦ names
    ]

abbrev pub with_owns : (List ℕ → Option CellNet) → List (List ℕ) → List (List ℕ) → List (List ℕ)
with_owns other names [] = names
with_owns other names (x ∷ xs) = with_owns other (with_own other names x) xs

-- the names at the drain, the gate and the source of a transistor
abbrev pub device_names : DeviceCard → List (List ℕ)
device_names card = card.drain ∷ card.gate ∷ card.source ∷ []

-- the ports and the own nets of a cell
abbrev pub names_by : SharedNames → Cell → CellNames
names_by shared cell = record {
  ports = with_names [] cell.ports;
  own = with_owns (shared_in shared (with_names [] cell.ports)) [] (mentions cell);
}

-- ---- cards

-- an own net by its place, else what the name is in every cell with these ports
abbrev pub net_by : SharedNames → CellNames → List ℕ → CellNet
net_by shared names name =
    elim (place_of names.own name) [
      | None ↦ unwrap_or (shared_in shared names.ports name) (Own 0)
      | Some k ↦ Own k
    ]

abbrev pub device_by : SharedNames → CellNames → DeviceCard → DeviceNets
device_by shared names card =
    record { drain = net_by shared names card.drain; gate = net_by shared names card.gate; source = net_by shared names card.source }

abbrev pub instance_by : SharedNames → CellNames → InstanceCard → InstanceNets
instance_by shared names card = record { cell = cell_in shared card.cell; nets = map (net_by shared names) card.nets }

abbrev pub nets_by : SharedNames → Cell → CellNets
nets_by shared cell = record {
  names = names_by shared cell;
  devices = map (device_by shared (names_by shared cell)) cell.devices;
  instances = map (instance_by shared (names_by shared cell)) cell.instances;
}
