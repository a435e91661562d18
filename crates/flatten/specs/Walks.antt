-- The unrolled cells of a cell, by what is told of them: their devices, and which supplies their ports are tied to.
use Rattle.std.specs.Prelude.{ℕ, zero, suc, List, [], ◌∷◌, map, find, is_none, Bool, true, false, cond, Option, Some, None, unwrap_or, slice_get, position, bytes_eq, ◌==◌}
use Rattle.std.specs.Option.{option_or}
use Rattle.flat_devices.specs.DeviceTables.{first_some}
pub use Rattle.flat_sizes.specs.Totals.{AreNumbered}
use Rattle.flatten.specs.NetTables.{Supplies}
use Rattle.rule_index.specs.Firsts.{value_in}
use Rattle.rule_index.specs.Tables.{kind_in}
use Rattle.name_tables.specs.declared.firsts.FirstValues.{FirstValues}
use Rattle.rule_index.specs.declared.models.ModelTable.{ModelTable}
use Rattle.flatten.specs.declared.ties.Spot.{Spot}
use Rattle.vrt_model.specs.Comparison.{cell_at}
use Rattle.vrt_model.specs.Lists.{differ, path_name}
use Rattle.vrt_model.specs.Unrolled.{cell_named, deepest}
use Rattle.vrt_model.specs.declared.design.Design.{Design}
use Rattle.vrt_model.specs.declared.design.DeviceCard.{DeviceCard}
use Rattle.vrt_model.specs.declared.design.InstanceCard.{InstanceCard}

-- ---- devices

-- the first device of a cell that passes a test, or else that of the cells in it, at most so deep
abbrev pub first_card : (DeviceCard → Bool) → Design → ℕ → ℕ → Option DeviceCard
first_card test design zero k = find test (cell_at design k).devices
first_card test design (suc depth) k =
    option_or (find test (cell_at design k).devices) (first_some (λ (i : InstanceCard). first_card test design depth (cell_named design i.cell)) (cell_at design k).instances)

-- a device whose model has no kind
abbrev pub has_no_kind : ModelTable → DeviceCard → Bool
has_no_kind models d = is_none (kind_in models d.model)

unfoldable pub card_without_kind : ModelTable → Design → ℕ → Option DeviceCard
card_without_kind models design k = first_card (has_no_kind models) design deepest k

-- ---- ties

-- which supply a net is
abbrev pub supply_at : ℕ → Option Bool
supply_at net = cond (net == 0) (Some false) (cond (net == 1) (Some true) None)

-- which supply a name is in a cell whose ports are tied so
abbrev pub port_supply : List (Option Bool) → Option ℕ → Option Bool
port_supply values None = None
port_supply values (Some k) = unwrap_or (slice_get values k) (Some false)

abbrev pub tied_supply : Supplies → List (List ℕ) → List (Option Bool) → List ℕ → Option Bool
tied_supply supply ports values name = option_or (supply name) (port_supply values (position (bytes_eq name) ports))

-- a port named as a supply is tied to something else
abbrev pub is_apart : Option Bool → Option Bool → Bool
is_apart None value = false
is_apart (Some supply) None = true
is_apart (Some supply) (Some value) = differ supply value

abbrev pub are_apart : Supplies → List (List ℕ) → List (Option Bool) → Bool
are_apart supply [] values = false
are_apart supply (port ∷ ports) [] = false
are_apart supply (port ∷ ports) (value ∷ values) = cond (is_apart (supply port) value) true (are_apart supply ports values)

abbrev pub own_tie : Design → Supplies → Spot → Option (List ℕ)
own_tie design supply at = cond (are_apart supply (cell_at design at.cell).ports at.values) (Some at.path) None

-- an instance in a cell
abbrev pub spot_in : Design → Supplies → Spot → InstanceCard → Spot
spot_in design supply at i = record {
  cell = cell_named design i.cell;
  path = path_name at.path i.name;
  values = map (tied_supply supply (cell_at design at.cell).ports at.values) i.nets;
}

-- the same by a table of the numbers of cells and the names of the ports
abbrev pub spot_by : FirstValues ℕ → Supplies → List (List ℕ) → Spot → InstanceCard → Spot
spot_by cells supply ports at i = record {
  cell = unwrap_or (value_in cells i.cell) 0;
  path = path_name at.path i.name;
  values = map (tied_supply supply ports at.values) i.nets;
}

-- the path of the first that ties a supply apart: the cell itself, then those in it, at most so deep
abbrev pub first_tie : Design → Supplies → ℕ → Spot → Option (List ℕ)
first_tie design supply zero at = own_tie design supply at
first_tie design supply (suc depth) at =
    option_or (own_tie design supply at) (first_some (λ (i : InstanceCard). first_tie design supply depth (spot_in design supply at i)) (cell_at design at.cell).instances)

unfoldable pub tie_from : Design → Supplies → Spot → Option (List ℕ)
tie_from design supply at = first_tie design supply deepest at

-- the cell itself: its ports that are supplies are tied to these
abbrev pub top_spot : Design → Supplies → ℕ → Spot
top_spot design supply k = record { cell = k; path = []; values = map supply (cell_at design k).ports }
