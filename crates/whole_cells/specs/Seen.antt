-- Ports that are observed in all phases.
use Rattle.std.specs.Prelude.{ℕ, Bool, true, is_none, ◌||◌, List, Option, Some, None, slice_get}
use Rattle.std.specs.List.{list_all}
use Rattle.phase_ports.specs.declared.port_list.Port.{Port}
use Rattle.vrt_model.specs.CellRules.{is_observed_port}
use Rattle.vrt_model.specs.Comparison.{output_signal}
use Rattle.vrt_model.specs.Variables.{places}
use Rattle.vrt_model.specs.declared.design.Cell.{Cell}
use Rattle.vrt_model.specs.declared.rules.Rules.{Rules}

-- a port of a name is observed in each phase, or there is none
abbrev pub is_seen_named : Rules → List ℕ → Option (List ℕ) → Bool
is_seen_named rules cell None = true
is_seen_named rules cell (Some port) = list_all (λ phase. is_observed_port rules cell port phase) (places 0 rules.phases)

-- a port is no output, or is observed in all phases
abbrev pub is_seen_port : Rules → Cell → Port → Bool
is_seen_port rules cell p = is_none (output_signal p.role) || is_seen_named rules cell.name (slice_get cell.ports p.place)
