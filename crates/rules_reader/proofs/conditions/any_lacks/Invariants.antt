use Rattle.std.proofs.Common.{◌≡◌, ◌≤◌, ◌-◌, length, drop}
use Rattle.std.specs.List.{list_any}
use Rattle.rules_reader.specs.Refused.{lacks_bit}
use Rattle.rules_reader.proofs.conditions.any_lacks.Given as goal

-- none so far
abbrev pub invariant-clocks : goal.invariant-clocks
invariant-clocks l = (l.at ≤ length l.clocks) × (list_any (lacks_bit l.bits) (drop l.at l.clocks) ≡ list_any (lacks_bit l.bits) l.clocks)

abbrev pub decreases-clocks : goal.decreases-clocks
decreases-clocks l = length l.clocks - l.at
