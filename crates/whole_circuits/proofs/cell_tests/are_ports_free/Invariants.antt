use Rattle.std.proofs.Common.{◌≡◌, length}
use Rattle.std.specs.List.{list_all}
use Rattle.whole_circuits.specs.CellTests.{is_port_free}
use Rattle.whole_circuits.proofs.cell_tests.are_ports_free.Given as goal

-- all ports so far
abbrev pub invariant-ports : goal.invariant-ports
invariant-ports l = list_all (is_port_free l.devices) l.rest ≡ list_all (is_port_free l.fn.devices) l.fn.ports

abbrev pub decreases-ports : goal.decreases-ports
decreases-ports l = length l.rest
