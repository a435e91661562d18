-- What is written of the order in which ports rise.
use Rattle.std.specs.Prelude.{◌≡◌, [], ℕ, List, slice_get, unwrap_or}
use Rattle.arrival_lines.specs.LineTexts.{budget_line, many_line, no_line, step_names, yes_line}
use Rattle.arrival_lines.specs.RisingNames.{AreNamed}
use Rattle.domino_order.specs.Arrivals.{ArrivalTells}
use Rattle.domino_order.specs.declared.arrival.Arrival.{Arrival}
use Rattle.domino_order.specs.declared.arrival.Arrival.TheVariants.{Yes, No, TooMany, Budget}
use Rattle.vrt_model.specs.Comparison.{Comparison, cell_at, phase_at}
use Rattle.vrt_model.specs.Held.{variable_names}
use Rattle.vrt_model.specs.declared.blif.Blif.{Blif}

-- the name of a port by its place
abbrev pub port_name : Comparison → ℕ → List ℕ
port_name k place = unwrap_or (slice_get (cell_at k.design k.cell).ports place) []

-- the line of an answer on ports of these names
abbrev pub arrival_line : Comparison → ℕ → List (List ℕ) → Arrival → List ℕ
arrival_line k phase names Yes = yes_line (cell_at k.design k.cell).name (phase_at k.rules phase).name
arrival_line k phase names (No port valuation) =
    no_line (cell_at k.design k.cell).name (phase_at k.rules phase).name (port_name k port) (step_names (variable_names k phase) names) valuation.bits
arrival_line k phase names (TooMany count) = many_line (cell_at k.design k.cell).name count
arrival_line k phase names (Budget nodes) = budget_line (cell_at k.design k.cell).name (phase_at k.rules phase).name nodes

-- the ports of these names rise, this is told of them, and this is its line
pub record IsArrivalTold (k : Comparison) (blif : Blif) (budget phase : ℕ) (names : List (List ℕ)) (arrival : Arrival) (line : List ℕ) : Type 0 where
  pub rising : List ℕ
  pub named : AreNamed k names rising
  pub tells : ArrivalTells k blif budget phase rising arrival
  pub line_is : line ≡ arrival_line k phase names arrival
