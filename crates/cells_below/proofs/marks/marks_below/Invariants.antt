use Rattle.std.proofs.Common.{length}
use Rattle.nesting.specs.Reached.{GoesDown}
use Rattle.vrt_model.specs.Hierarchy.{cells_in}
use Rattle.cells_below.proofs.marks.marks_below.Given as goal

-- what was met so far, and of which all that stand in them was
abbrev pub invariant-loop-at : goal.invariant-loop-at
invariant-loop-at l = GoesDown (cells_in l.design) (length l.design.cells) l.top l.at l.marks.items l.met
