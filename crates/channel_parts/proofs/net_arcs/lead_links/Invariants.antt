use Rattle.channel_parts.specs.NetGraphs.{ArcsBelow, IsLinkArc}
use Rattle.known_nets.specs.Placed.{Adds}
use Rattle.channel_parts.proofs.net_arcs.lead_links.Given as goal

abbrev pub invariant-loop-link : goal.invariant-loop-link
invariant-loop-link l = Adds (ArcsBelow l.whole.links (IsLinkArc l.circuit l.phase l.least l.whole) l.link-index) l.initial.graph.items l.graph.items
