use Rattle.std.proofs.Common.{◌≡◌, ◌+◌, length}
use Rattle.std.specs.List.{enumerate_from, list_all}
use Rattle.whole_circuits.specs.Outputs.{joins_others, joins_own}
use Rattle.whole_circuits.proofs.outputs.joins_others.Given as goal

-- all pins so far may be met, and their number
abbrev pub invariant-pins : goal.invariant-pins
invariant-pins l =
    (list_all (joins_own l.own.net.0 l.at l.own.drive) (enumerate_from l.other l.rest) ≡ joins_others l.fn.pins l.own.net.0 l.at l.own.drive)
    × (l.other + length l.rest ≡ length l.fn.pins)

abbrev pub decreases-pins : goal.decreases-pins
decreases-pins l = length l.rest
