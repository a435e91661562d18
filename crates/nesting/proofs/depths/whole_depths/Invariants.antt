use Rattle.nesting.specs.Depths.{AreDepths}
use Rattle.nesting.proofs.depths.whole_depths.Given as goal

-- the depths after so many rounds
abbrev pub invariant-loop-round : goal.invariant-loop-round
invariant-loop-round l = AreDepths l.inner l.round l.depths
