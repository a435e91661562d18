use Rattle.std.proofs.Common.{◌≡◌, map, take}
use Rattle.phase_open.specs.Given.{variable_at}
use Rattle.domino_order.proofs.made.variables_of.Given as goal

-- those of the nets so far
abbrev pub invariant-loop-net : goal.invariant-loop-net
invariant-loop-net l = l.variables ≡ map (variable_at l.fn.circuit) (take l.net-index l.nets)
