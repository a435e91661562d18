use Rattle.std.proofs.Common.{◌≡◌, ◌++◌, length}
use Rattle.whole_circuits.specs.MovedHolds.{moved_by}
use Rattle.whole_circuits.proofs.holds.moved_by.Given as goal

-- the numbers so far with those of the places that are left
abbrev pub invariant-places : goal.invariant-places
invariant-places l = l.moved.items ++ moved_by l.number l.rest ≡ moved_by 0 l.fn.inside

abbrev pub decreases-places : goal.decreases-places
decreases-places l = length l.rest
