use Rattle.std.proofs.Common.{◌≡◌, length}
use Rattle.std.specs.List.{list_any}
use Rattle.checked_cells.specs.Given.{is_candidate}
use Rattle.cell_room.proofs.checked.has_candidate.Given as goal

-- what is left has an instance of a known cell where all have
abbrev pub invariant-instances : goal.invariant-instances
invariant-instances l = list_any (is_candidate l.fn.facts) l.rest ≡ list_any (is_candidate l.fn.facts) l.fn.circuit.instances

abbrev pub decreases-instances : goal.decreases-instances
decreases-instances l = length l.rest
