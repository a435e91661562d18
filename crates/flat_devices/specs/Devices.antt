-- The devices of the places of an unrolled netlist.
use Rattle.std.specs.Prelude.{◌≤◌, ℕ, List, [], ◌∷◌, map, flat_map, length, unwrap_or}
use Rattle.flat_devices.specs.DeviceTables.{device_level}
use Rattle.flat_devices.specs.declared.device_tables.DeviceTable.{DeviceTable}
use Rattle.net_places.specs.Globals.{nets_on}
use Rattle.net_places.specs.Links.{IsUnrolled}
use Rattle.net_places.specs.Places.{HasRoomFor, net_of, nets_at}
use Rattle.net_places.specs.declared.places.Place.{Place}
use Rattle.net_places.specs.declared.whole.Unrolled.{Unrolled}
use Rattle.net_tables.specs.Nets.{net_in}
use Rattle.net_tables.specs.declared.tables.NetTables.{NetTables}
use Rattle.net_tables.specs.declared.types.DeviceNets.{DeviceNets}
use Rattle.rule_index.specs.Tables.{kind_in}
use Rattle.rule_index.specs.declared.models.ModelTable.{ModelTable}
use Rattle.vrt_model.specs.Comparison.{cell_at}
use Rattle.vrt_model.specs.FlatCircuit.{flat_nets, is_keeper, kind_of, level_of}
use Rattle.vrt_model.specs.Lists.{Among, has_name, path_name}
use Rattle.vrt_model.specs.Unsupported.{top_before}
use Rattle.vrt_model.specs.declared.circuit.Device.{Device}
use Rattle.vrt_model.specs.declared.design.Design.{Design}
use Rattle.vrt_model.specs.declared.design.DeviceCard.{DeviceCard}
use Rattle.vrt_model.specs.declared.design.Kind.TheVariants.{N}
use Rattle.vrt_model.specs.declared.ids.Net.{Net}
use Rattle.vrt_model.specs.declared.rules.Rules.{Rules}

-- ---- by tables

-- what is made of the items of two lists, place by place, as far as both go
abbrev pub pairwise : {X Y Z : Type 0} → (X → Y → Z) → List X → List Y → List Z
pairwise f [] ys = []
pairwise f (x ∷ xs) [] = []
pairwise f (x ∷ xs) (y ∷ ys) = f x y ∷ pairwise f xs ys

-- the device of a card at a place, by the nets of the card
abbrev pub device_by : ModelTable → DeviceTable → List Net → Place → DeviceCard → DeviceNets → Device
device_by models table globals p card nets = record {
  name = path_name p.path card.name;
  kind = unwrap_or (kind_in models card.model) N;
  gate = net_of p globals nets.gate;
  left = net_of p globals nets.drain;
  right = net_of p globals nets.source;
  level = device_level models table card.name card.model;
  keeper = has_name table.keepers card.name;
}

-- there is room for the nets of the cards of places
abbrev pub HaveRoom : NetTables → List Place → Type 0
HaveRoom tables places = (p : Place) → Among places p → HasRoomFor p.base (flat_map nets_on (nets_at tables p.cell).devices)

-- ---- by what is said

-- the device of a card of a cell at a place
abbrev pub said_device : Design → Rules → List Net → Place → ℕ → DeviceCard → Device
said_device design rules globals p k card = record {
  name = path_name p.path card.name;
  kind = unwrap_or (kind_of design rules card.model) N;
  gate = net_of p globals (net_in design rules (cell_at design k) card.gate);
  left = net_of p globals (net_in design rules (cell_at design k) card.drain);
  right = net_of p globals (net_in design rules (cell_at design k) card.source);
  level = level_of rules (cell_at design k).name card.name card.model;
  keeper = is_keeper rules (cell_at design k).name card.name;
}

-- the devices of a place
abbrev pub said_devices : Design → Rules → List Net → Place → List Device
said_devices design rules globals p = map (said_device design rules globals p p.cell) (cell_at design p.cell).devices

-- ---- whole cells

-- what is unrolled are the places of a cell whose flat circuit is not too large
pub record IsOfCell (design : Design) (rules : Rules) (unrolled : Unrolled) : Type 0 where
  pub cell : ℕ
  pub unrolled_is : IsUnrolled (top_before design rules cell) unrolled
  pub small : length (flat_nets (top_before design rules cell)) ≤ 20000
