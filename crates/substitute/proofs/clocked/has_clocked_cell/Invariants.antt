use Rattle.std.proofs.Common.{◌≡◌, length}
use Rattle.std.specs.List.{list_any}
use Rattle.substitute.specs.Clocked.{is_clocked_at}
use Rattle.substitute.proofs.clocked.has_clocked_cell.Given as goal

-- some place that is left has such a cell where some of all has one
abbrev pub invariant-places : goal.invariant-places
invariant-places l = list_any (is_clocked_at l.fn.cells) l.rest ≡ list_any (is_clocked_at l.fn.cells) l.fn.places

abbrev pub decreases-places : goal.decreases-places
decreases-places l = length l.rest
