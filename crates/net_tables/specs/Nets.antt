-- The nets of a cell by itself: what each name in it is, whatever stands around it.
use Rattle.std.specs.Prelude.{ℕ, Bool, List, map, Option, option_map, unwrap_or}
use Rattle.std.specs.Option.{option_or}
use Rattle.net_tables.specs.declared.types.CellNet.{CellNet}
use Rattle.net_tables.specs.declared.types.CellNet.TheVariants.{Supply, Port, Global, Own}
use Rattle.net_tables.specs.declared.types.CellNets.{CellNets}
use Rattle.net_tables.specs.declared.types.DeviceNets.{DeviceNets}
use Rattle.net_tables.specs.declared.types.InstanceNets.{InstanceNets}
use Rattle.vrt_model.specs.CellRules.{supply_of}
use Rattle.vrt_model.specs.Lists.{place_of}
use Rattle.vrt_model.specs.Unrolled.{cell_named, own_nets}
use Rattle.vrt_model.specs.declared.design.Cell.{Cell}
use Rattle.vrt_model.specs.declared.design.Design.{Design}
use Rattle.vrt_model.specs.declared.design.DeviceCard.{DeviceCard}
use Rattle.vrt_model.specs.declared.design.InstanceCard.{InstanceCard}
use Rattle.vrt_model.specs.declared.rules.Rules.{Rules}

-- a port, and a global net, by its place
abbrev pub port_among : List (List ℕ) → List ℕ → Option CellNet
port_among ports name = option_map (λ (k : ℕ). Port k) (place_of ports name)

abbrev pub global_among : List (List ℕ) → List ℕ → Option CellNet
global_among globals name = option_map (λ (j : ℕ). Global j) (place_of globals name)

-- what is no own net of a cell: a supply goes before a port, and a port before a global net
abbrev pub shared_net : Option Bool → List (List ℕ) → List (List ℕ) → List ℕ → Option CellNet
shared_net supply ports globals name =
    option_or (option_map (λ (value : Bool). Supply value) supply) (option_or (port_among ports name) (global_among globals name))

-- what a name in a cell is; one that is no net of the cell counts as its first own net
unfoldable pub net_in : Design → Rules → Cell → List ℕ → CellNet
net_in design rules cell name =
    unwrap_or (shared_net (supply_of rules name) cell.ports design.globals name) (Own (unwrap_or (place_of (own_nets design rules cell) name) 0))

-- the nets at a transistor
abbrev pub device_in : Design → Rules → Cell → DeviceCard → DeviceNets
device_in design rules cell card =
    record { drain = net_in design rules cell card.drain; gate = net_in design rules cell card.gate; source = net_in design rules cell card.source }

-- the cell of an instance, and the nets at its ports
abbrev pub instance_in : Design → Rules → Cell → InstanceCard → InstanceNets
instance_in design rules cell card = record { cell = cell_named design card.cell; nets = map (net_in design rules cell) card.nets }

-- the nets of a cell, and what the names on its cards are
abbrev pub nets_in : Design → Rules → Cell → CellNets
nets_in design rules cell = record {
  names = record { ports = cell.ports; own = own_nets design rules cell };
  devices = map (device_in design rules cell) cell.devices;
  instances = map (instance_in design rules cell) cell.instances;
}
