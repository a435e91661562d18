use Rattle.std.proofs.Common.{◌≡◌, length}
use Rattle.flat_holds.specs.Ends.{first_at, is_line_of}
use Rattle.flat_holds.proofs.lines.line_among.Given as goal

-- the lines so far are not of the element
abbrev pub invariant-places : goal.invariant-places
invariant-places l = first_at (is_line_of l.cell l.instance l.element) l.lines l.left ≡ first_at (is_line_of l.cell l.instance l.element) l.lines l.places

abbrev pub decreases-places : goal.decreases-places
decreases-places l = length l.left
