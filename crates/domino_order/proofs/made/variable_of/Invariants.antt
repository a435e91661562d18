use Rattle.std.proofs.Common.{◌≡◌}
use Rattle.phase_open.specs.Given.{variable_at}
use Rattle.domino_order.proofs.made.variable_of.Given as goal

-- the inputs before a net
abbrev pub invariant-loop-n : goal.invariant-loop-n
invariant-loop-n l = l.before ≡ variable_at l.circuit l.n
