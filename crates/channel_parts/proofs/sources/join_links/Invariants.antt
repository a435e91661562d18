use Rattle.channel_parts.specs.NetGraphs.{ArcsBelow}
use Rattle.channel_parts.specs.Sources.{IsLinkBetween}
use Rattle.known_nets.specs.Placed.{Adds}
use Rattle.channel_parts.proofs.sources.join_links.Given as goal

abbrev pub invariant-loop-link : goal.invariant-loop-link
invariant-loop-link l = Adds (ArcsBelow l.whole.links (IsLinkBetween l.circuit l.phase l.known l.least l.whole) l.link-index) l.initial.sources.items l.sources.items
