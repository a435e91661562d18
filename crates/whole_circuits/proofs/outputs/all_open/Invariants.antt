use Rattle.std.proofs.Common.{◌≡◌, ◌+◌, length}
use Rattle.std.specs.List.{enumerate_from, list_all}
use Rattle.whole_circuits.specs.Outputs.{are_open, open_pin}
use Rattle.whole_circuits.proofs.outputs.all_open.Given as goal

-- all pins so far pass, and their number
abbrev pub invariant-pins : goal.invariant-pins
invariant-pins l =
    (list_all (open_pin l.circuit l.marks l.pins) (enumerate_from l.at l.rest) ≡ are_open l.fn.circuit l.fn.marks l.fn.pins) × (l.at + length l.rest ≡ length l.fn.pins)

abbrev pub decreases-pins : goal.decreases-pins
decreases-pins l = length l.rest
