use Rattle.channel_parts.specs.NetGraphs.{IsNetArcBelow}
use Rattle.known_nets.specs.Placed.{Adds}
use Rattle.channel_parts.proofs.net_arcs.lead_nets.Given as goal

abbrev pub invariant-loop-net : goal.invariant-loop-net
invariant-loop-net l = Adds (IsNetArcBelow l.circuit l.least l.net) l.initial.graph.items l.graph.items
