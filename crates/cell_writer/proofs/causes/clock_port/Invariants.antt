use Rattle.std.proofs.Common.{◌≡◌, length}
use Rattle.cell_writer.specs.Refused.{clock_among}
use Rattle.cell_writer.proofs.causes.clock_port.Given as goal

-- none so far
abbrev pub invariant-ports : goal.invariant-ports
invariant-ports l = clock_among l.names_left l.roles_left ≡ clock_among l.fn.names l.fn.roles

abbrev pub decreases-ports : goal.decreases-ports
decreases-ports l = length l.names_left
