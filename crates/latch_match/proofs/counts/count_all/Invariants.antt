use Rattle.std.proofs.Common.{take}
use Rattle.latch_match.specs.Marked.{AreCounts}
use Rattle.latch_match.proofs.counts.count_all.Given as goal

-- the numbers so far
abbrev pub invariant-loop-number : goal.invariant-loop-number
invariant-loop-number l = AreCounts (take l.number-index l.numbers) l.counts
