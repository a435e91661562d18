use Rattle.std.proofs.Common.{◌≡◌, length}
use Rattle.std.specs.List.{list_all}
use Rattle.whole_cells.specs.Seen.{is_seen_port}
use Rattle.whole_cells.proofs.seen.are_seen.Given as goal

-- all ports so far
abbrev pub invariant-ports : goal.invariant-ports
invariant-ports l = list_all (is_seen_port l.rules l.cell) l.rest ≡ list_all (is_seen_port l.fn.rules l.fn.cell) l.fn.ports

abbrev pub decreases-ports : goal.decreases-ports
decreases-ports l = length l.rest
