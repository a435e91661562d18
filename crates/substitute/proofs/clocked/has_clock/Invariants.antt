use Rattle.std.proofs.Common.{◌≡◌, length}
use Rattle.std.specs.List.{list_any}
use Rattle.phase_ports.specs.declared.port_list.Port.{Port}
use Rattle.substitute.specs.Clocked.{carries_clock}
use Rattle.substitute.proofs.clocked.has_clock.Given as goal

-- what is left has such a port where all have one
abbrev pub invariant-ports : goal.invariant-ports
invariant-ports l = list_any (λ (port : Port). carries_clock port.role) l.rest ≡ list_any (λ (port : Port). carries_clock port.role) l.fn.ports

abbrev pub decreases-ports : goal.decreases-ports
decreases-ports l = length l.rest
