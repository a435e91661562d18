use Rattle.std.proofs.Common.{length}
use Rattle.phase_open.proofs.TieLaws.{AreTied}
use Rattle.phase_ports.specs.Ports.{ports_by}
use Rattle.phase_open.proofs.inputs.open_ties.Given as goal

-- the ports so far
abbrev pub invariant-roles : goal.invariant-roles
invariant-roles l = AreTied (ports_by 0 2 l.fn.roles) l.fn.roots l.fn.inputs l.fn.store l.next l.left l.store

abbrev pub decreases-roles : goal.decreases-roles
decreases-roles l = length l.left
