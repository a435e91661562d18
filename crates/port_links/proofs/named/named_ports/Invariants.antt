use Rattle.std.proofs.Common.{◌≡◌, ◌++◌, length, map}
use Rattle.constraints.specs.Obliged.{is_named_in}
use Rattle.port_links.proofs.named.named_ports.Given as goal

-- the marks so far with those of the ports that are left
abbrev pub invariant-ports : goal.invariant-ports
invariant-ports l = l.marks.items ++ map (is_named_in l.rules l.cell.name l.phase) l.rest ≡ map (is_named_in l.rules l.cell.name l.phase) l.cell.ports

abbrev pub decreases-ports : goal.decreases-ports
decreases-ports l = length l.rest
