-- Cells whose ports carry clocks.
use Rattle.std.specs.Prelude.{Bool, true, false, List, Option, Some, None, option_map, slice_get, unwrap_or}
use Rattle.std.specs.List.{list_any}
use Rattle.net_places.specs.declared.places.Place.{Place}
use Rattle.phase_ports.specs.declared.port_list.Port.{Port}
use Rattle.whole_circuits.specs.declared.whole_cell.WholeCell.{WholeCell}
use Rattle.vrt_model.specs.declared.pairing.PortRole.{PortRole}
use Rattle.vrt_model.specs.declared.pairing.PortRole.TheVariants.{Supply, Clock, Input, Output}

-- a port carries a clock
abbrev pub carries_clock : PortRole → Bool
carries_clock (Clock clock) = true
carries_clock (Supply value) = false
carries_clock (Input signal) = false
carries_clock (Output signal) = false

-- a cell whose instances may be left whole has such a port
abbrev pub is_clocked : Option WholeCell → Bool
is_clocked None = false
is_clocked (Some own) = list_any (λ (port : Port). carries_clock port.role) own.ports.items

-- the cell at a place is such a cell
abbrev pub is_clocked_at : List (Option WholeCell) → Place → Bool
is_clocked_at cells place = unwrap_or (option_map is_clocked (slice_get cells place.cell)) false
