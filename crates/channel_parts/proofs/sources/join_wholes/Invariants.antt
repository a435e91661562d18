use Rattle.channel_parts.specs.NetGraphs.{ArcsBelow}
use Rattle.channel_parts.specs.Sources.{IsWholeBetween}
use Rattle.known_nets.specs.Placed.{Adds}
use Rattle.channel_parts.proofs.sources.join_wholes.Given as goal

abbrev pub invariant-loop-whole : goal.invariant-loop-whole
invariant-loop-whole l = Adds (ArcsBelow l.circuit.wholes (IsWholeBetween l.circuit l.phase l.known l.least) l.whole-index) l.initial.sources.items l.sources.items
