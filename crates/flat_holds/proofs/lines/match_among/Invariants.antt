use Rattle.std.proofs.Common.{◌≡◌, length}
use Rattle.flat_holds.specs.Ends.{first_at, is_match_of}
use Rattle.flat_holds.proofs.lines.match_among.Given as goal

-- the lines so far are not of the net of the hold
abbrev pub invariant-places : goal.invariant-places
invariant-places l = first_at (is_match_of l.hold) l.lines l.left ≡ first_at (is_match_of l.hold) l.lines l.places

abbrev pub decreases-places : goal.decreases-places
decreases-places l = length l.left
