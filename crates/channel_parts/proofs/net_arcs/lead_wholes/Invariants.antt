use Rattle.channel_parts.specs.NetGraphs.{IsWholeArcBelow}
use Rattle.known_nets.specs.Placed.{Adds}
use Rattle.channel_parts.proofs.net_arcs.lead_wholes.Given as goal

abbrev pub invariant-loop-whole : goal.invariant-loop-whole
invariant-loop-whole l = Adds (IsWholeArcBelow l.circuit l.phase l.least l.whole-index) l.initial.graph.items l.graph.items
