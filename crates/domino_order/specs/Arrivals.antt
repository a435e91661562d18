-- What is told of inputs that rise within a phase.
use Rattle.std.specs.Prelude.{◌≡◌, ℕ, ◌+◌, ◌*◌, ◌^◌, ◌<◌, ◌≤◌, Bool, false, List, Some, length, map, slice_index}
use Rattle.arrival_laws.specs.Orders.{AllOrdersGoWell}
use Rattle.domino_order.specs.StepBits.{FailsAt}
use Rattle.domino_order.specs.declared.arrival.Arrival.{Arrival}
use Rattle.domino_order.specs.declared.arrival.Arrival.TheVariants.{Yes, No, TooMany, Budget}
use Rattle.vrt_model.specs.Budget.{work_of}
use Rattle.vrt_model.specs.Comparison.{CellPort, Comparison, cell_at, input_signal, port_nets, ports_of}
use Rattle.vrt_model.specs.Held.{sources_of}
use Rattle.vrt_model.specs.Limits.{most_variables}
use Rattle.vrt_model.specs.Lists.{Among, At}
use Rattle.vrt_model.specs.Variables.{is_less}
use Rattle.vrt_model.specs.declared.blif.Blif.{Blif}

-- ---- ports that rise

-- the net of a port of the cell, by its place among the ports, and those of several
abbrev pub net_of_port : Comparison → ℕ → ℕ
net_of_port k place = slice_index (port_nets k.rules (cell_at k.design k.cell).ports) place

abbrev pub nets_of_ports : Comparison → List ℕ → List ℕ
nets_of_ports k places = map (net_of_port k) places

-- input ports, each once, and at least one
pub record AreRising (k : Comparison) (places : List ℕ) : Type 0 where
  pub some : 0 < length places
  pub once : (i j place : ℕ) → At places i place → At places j place → i ≡ j
  pub inputs : (place : ℕ) → Among places place → (port : CellPort) × At (ports_of k) place port × (signal : ℕ) × (input_signal port.role ≡ Some signal)

-- the variables of the phase, and one for each rising port
abbrev pub arrival_variables : Comparison → ℕ → List ℕ → ℕ
arrival_variables k phase rising = length (sources_of k phase) + length rising

-- ---- the answer

-- the first of these ports that fails to rise at some step, and the least bits of such a step
pub record IsFirstFailing (k : Comparison) (phase : ℕ) (rising : List ℕ) (port : ℕ) (bits : List Bool) : Type 0 where
  pub place : ℕ
  pub there : At rising place port
  pub fails : FailsAt k phase (nets_of_ports k rising) (net_of_port k port) bits
  pub least : (more : List Bool) → FailsAt k phase (nets_of_ports k rising) (net_of_port k port) more → is_less more bits ≡ false
  pub before : (i other : ℕ) (more : List Bool) → i < place → At rising i other → ¬ FailsAt k phase (nets_of_ports k rising) (net_of_port k other) more

-- In whatever order these ports rise, it goes well; or it does not in some order, and the first step that fails; or too many variables; or the
-- budget, which is less than the nodes that may be needed.
abbrev pub ArrivalTells : Comparison → Blif → ℕ → ℕ → List ℕ → Arrival → Type 0
ArrivalTells k blif budget phase rising Yes = (arrival_variables k phase rising ≤ most_variables) × AllOrdersGoWell k phase (nets_of_ports k rising)
ArrivalTells k blif budget phase rising (No port valuation) =
    (arrival_variables k phase rising ≤ most_variables) × (¬ AllOrdersGoWell k phase (nets_of_ports k rising)) × IsFirstFailing k phase rising port valuation.bits
ArrivalTells k blif budget phase rising (TooMany count) = (count ≡ arrival_variables k phase rising) × (most_variables < count)
ArrivalTells k blif budget phase rising (Budget nodes) =
    (arrival_variables k phase rising ≤ most_variables) × (4 < arrival_variables k phase rising) × (nodes ≡ budget)
    × (budget < 2 + 2 ^ arrival_variables k phase rising * (4 * (length rising + 1) * work_of k blif))
