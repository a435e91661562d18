use Rattle.std.proofs.Common.{◌≡◌, ◌+◌, length}
use Rattle.cell_room.specs.Sizes.{elements_in}
use Rattle.cell_room.proofs.sizes.elements_of.Given as goal

-- those of the latches so far and of the others are all
abbrev pub invariant-latches : goal.invariant-latches
invariant-latches l = l.count + elements_in l.rest ≡ elements_in l.fn.latches

abbrev pub decreases-latches : goal.decreases-latches
decreases-latches l = length l.rest
