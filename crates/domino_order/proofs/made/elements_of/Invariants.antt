use Rattle.std.proofs.Common.{◌≡◌, ◌+◌, length}
use Rattle.domino_order.specs.Made.{latch_elements}
use Rattle.domino_order.proofs.made.elements_of.Given as goal

-- those of the latches so far and of the others are all
abbrev pub invariant-latches : goal.invariant-latches
invariant-latches l = l.count + latch_elements l.rest ≡ latch_elements l.fn.latches

abbrev pub decreases-latches : goal.decreases-latches
decreases-latches l = length l.rest
