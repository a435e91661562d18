use Rattle.std.proofs.Common.{length}
use Rattle.nesting.specs.Depths.{in_list}
use Rattle.nesting.specs.Reached.{GoesDown}
use Rattle.nesting.proofs.reached.marks_within.Given as goal

-- what was met so far, and of which all that stand in them was
abbrev pub invariant-loop-at : goal.invariant-loop-at
invariant-loop-at l = GoesDown (in_list l.inner) (length l.inner) l.top l.at l.marks.items l.met
