-- The nets of a place of an unrolled netlist, by what the names in its cell are.
use Rattle.std.specs.Prelude.{◌≡◌, ℕ, ◌+◌, ◌≤◌, ◌<◌, ◌||◌, Bool, true, List, [], length, map, Option, Some, option_map, unwrap_or, slice_get}
use Rattle.net_tables.specs.declared.types.CellNet.{CellNet}
use Rattle.net_tables.specs.declared.types.CellNet.TheVariants.{Supply, Port, Global, Own}
use Rattle.vrt_model.specs.Comparison.{cell_at}
use Rattle.vrt_model.specs.FlatCircuit.{net_id}
use Rattle.vrt_model.specs.Lists.{Among, At, has_name, place_of}
use Rattle.vrt_model.specs.Unrolled.{Place, Top, deepest, first_global, globals_of, mentions, places_in, supply_net, top_place}
use Rattle.vrt_model.specs.declared.design.Cell.{Cell}
use Rattle.vrt_model.specs.declared.ids.Net.{Net}

-- the place that a net of the `.global` cards has among the global nets of the checked cell
abbrev pub global_place : Top → ℕ → Option ℕ
global_place t j = place_of (globals_of t) (unwrap_or (slice_get t.design.globals j) [])

-- the flat net of a net of a place's cell, by arithmetic alone
abbrev pub place_net : Top → Place → CellNet → ℕ
place_net t at (Supply value) = supply_net value
place_net t at (Port k) = unwrap_or (slice_get at.ports k) 0
place_net t at (Global j) = unwrap_or (option_map (λ (k : ℕ). first_global t + k) (global_place t j)) at.base
place_net t at (Own i) = at.base + i

-- a net of a cell: a port, or a card names it
abbrev pub is_net_of : Cell → List ℕ → Bool
is_net_of cell name = has_name cell.ports name || has_name (mentions cell) name

-- a place that stands at most so deep in the checked cell, and the name of a net of its cell
abbrev pub IsNamedAt : Top → Place → List ℕ → Type 0
IsNamedAt t at name =
    (depth : ℕ) × (depth ≤ deepest) × Among (places_in t depth (top_place t)) at × (is_net_of (cell_at t.design at.cell) name ≡ true)

-- the flat nets of a place's ports, of its first own net, and of the nets on `.global` cards
pub record ArePlaceNets (t : Top) (at : Place) (ports : List Net) (base : ℕ) (globals : List Net) : Type 0 where
  pub ports_are : map (λ (n : Net). n.0) ports ≡ at.ports
  pub base_is : base ≡ at.base
  pub globals_are : (j k : ℕ) → j < length t.design.globals → global_place t j ≡ Some k → At globals j (net_id (first_global t + k))

-- a net of a list, the first where there is none
abbrev pub net_or_first : List Net → ℕ → Net
net_or_first nets at = unwrap_or (slice_get nets at) (net_id 0)

-- the flat net of a net, by lists of flat nets
abbrev pub number_by : List Net → ℕ → List Net → CellNet → ℕ
number_by ports base globals (Supply value) = supply_net value
number_by ports base globals (Port k) = (net_or_first ports k).0
number_by ports base globals (Global j) = (net_or_first globals j).0
number_by ports base globals (Own i) = base + i
