use Rattle.std.proofs.Common.{◌≡◌, ◌≤◌, ◌-◌, length, drop}
use Rattle.rules_reader.specs.Tables.{bit_for}
use Rattle.rules_reader.proofs.clocked_rules.bit_of_clock.Given as goal

-- no bit of this clock so far
abbrev pub invariant-bits : goal.invariant-bits
invariant-bits l = (l.at ≤ length l.bits) × (bit_for (drop l.at l.bits) l.clock ≡ bit_for l.bits l.clock)

abbrev pub decreases-bits : goal.decreases-bits
decreases-bits l = length l.bits - l.at
