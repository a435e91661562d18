use Rattle.std.proofs.Common.{◌≡◌, ◌≤◌, ◌-◌, length, drop}
use Rattle.std.specs.List.{list_any}
use Rattle.rules_reader.specs.Refused.{is_bit_of}
use Rattle.rules_reader.proofs.conditions.has_bit.Given as goal

-- none so far
abbrev pub invariant-bits : goal.invariant-bits
invariant-bits l = (l.at ≤ length l.bits) × (list_any (is_bit_of l.clock) (drop l.at l.bits) ≡ list_any (is_bit_of l.clock) l.bits)

abbrev pub decreases-bits : goal.decreases-bits
decreases-bits l = length l.bits - l.at
