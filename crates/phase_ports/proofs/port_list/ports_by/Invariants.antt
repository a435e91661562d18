use Rattle.std.proofs.Common.{◌≡◌, ◌++◌, length}
use Rattle.phase_ports.specs.Ports.{ports_by}
use Rattle.phase_ports.proofs.port_list.ports_by.Given as goal

-- the ports so far, and those that are left
abbrev pub invariant-roles : goal.invariant-roles
invariant-roles l = l.ports.items ++ ports_by l.place l.next l.rest ≡ ports_by 0 2 l.fn.roles

abbrev pub decreases-roles : goal.decreases-roles
decreases-roles l = length l.rest
