use Rattle.std.proofs.Common.{◌≡◌, map, take}
use Rattle.domino_order.specs.Arrivals.{net_of_port}
use Rattle.phase_terms.specs.Ready.{comparison_in}
use Rattle.domino_order.proofs.made.rising_nets.Given as goal

-- the nets of the ports so far
abbrev pub invariant-loop-place : goal.invariant-loop-place
invariant-loop-place l = l.nets ≡ map (net_of_port (comparison_in l.fn.compared)) (take l.place-index l.rising)
