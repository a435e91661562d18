use Rattle.std.proofs.Common.{◌≡◌, map, take}
use Rattle.nesting.specs.Depths.{depth_over}
use Rattle.nesting.proofs.depths.next_round.Given as goal

abbrev pub invariant-loop-numbers : goal.invariant-loop-numbers
invariant-loop-numbers l = l.next ≡ map (depth_over l.depths) (take l.numbers-index l.inner)
