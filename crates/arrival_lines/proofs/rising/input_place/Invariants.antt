use Rattle.std.proofs.Common.{◌≡◌, ◌+◌, length}
use Rattle.arrival_lines.specs.RisingNames.{input_from}
use Rattle.arrival_lines.proofs.rising.input_place.Given as goal

-- none so far
abbrev pub invariant-ports : goal.invariant-ports
invariant-ports l = record {
  is : input_from l.at l.names_left l.roles_left l.name ≡ input_from 0 l.fn.ports.names.now l.fn.ports.roles.now l.name;
  count : l.at + length l.names_left ≡ length l.fn.ports.names.now;
}

abbrev pub decreases-ports : goal.decreases-ports
decreases-ports l = length l.names_left
