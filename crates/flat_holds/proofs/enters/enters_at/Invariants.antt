use Rattle.std.proofs.Common.{◌≡◌, ◌++◌, length}
use Rattle.std.specs.Prelude.{filter_map}
use Rattle.flat_holds.specs.Ends.{enter_at}
use Rattle.flat_holds.proofs.enters.enters_at.Given as goal

-- the constants so far, and those of the lines that are left
abbrev pub invariant-places : goal.invariant-places
invariant-places l = l.enters ++ filter_map (enter_at l.fn.hold l.fn.lines) l.rest ≡ filter_map (enter_at l.fn.hold l.fn.lines) l.fn.places

abbrev pub decreases-places : goal.decreases-places
decreases-places l = length l.rest
