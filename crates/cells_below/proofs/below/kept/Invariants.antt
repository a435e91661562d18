use Rattle.std.proofs.Common.{◌≡◌, filter, take}
use Rattle.cells_below.specs.Met.{keeps}
use Rattle.cells_below.proofs.below.kept.Given as goal

-- those of the list so far
abbrev pub invariant-loop-number : goal.invariant-loop-number
invariant-loop-number l = l.cells ≡ filter (keeps l.top l.marks) (take l.number-index l.order)
