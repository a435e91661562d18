use Rattle.std.proofs.Common.{◌≡◌, ◌≤◌, ◌-◌, length, drop}
use Rattle.rules_reader.specs.Keys.{clocks_on}
use Rattle.rules_reader.specs.Refused.{first_missing}
use Rattle.rules_reader.proofs.conditions.first_missing_clock.Given as goal

-- all so far are known
abbrev pub invariant-bits : goal.invariant-bits
invariant-bits l = (l.at ≤ length l.bits) × (first_missing l.clocks (clocks_on (drop l.at l.bits)) ≡ first_missing l.clocks (clocks_on l.bits))

abbrev pub decreases-bits : goal.decreases-bits
decreases-bits l = length l.bits - l.at
