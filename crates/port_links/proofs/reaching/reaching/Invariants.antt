use Rattle.std.proofs.Common.{length}
use Rattle.graphs.specs.Graphs.{sources_at}
use Rattle.nesting.specs.Reached.{GoesDown}
use Rattle.port_links.proofs.reaching.reaching.Given as goal

-- what is marked so far, and of which numbers all that lead to them are
abbrev pub invariant-loop-at : goal.invariant-loop-at
invariant-loop-at l = GoesDown (sources_at l.sources) (length l.sources) l.to l.at l.marks.items l.met
