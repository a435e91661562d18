use Rattle.blif_flat.specs.Counts.{AreSums}
use Rattle.blif_flat.proofs.counts.sums_of.Given as goal

-- the sums after so many rounds
abbrev pub invariant-loop-round : goal.invariant-loop-round
invariant-loop-round l = AreSums l.all l.kind l.round l.sums
