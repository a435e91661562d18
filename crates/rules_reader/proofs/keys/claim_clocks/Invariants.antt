use Rattle.std.proofs.Common.{◌≡◌, ◌≤◌, ◌-◌, length, drop, map}
use Rattle.names.specs.Names.{with_names}
use Rattle.rules_reader.specs.Keys.{clocks_on, key, repeated, text}
use Rattle.rules_reader.proofs.keys.claim_clocks.Given as goal

-- no key so far was there
abbrev pub invariant-bits : goal.invariant-bits
invariant-bits l =
    (l.at ≤ length l.bits)
    × (repeated l.keys (map (key l.front) (clocks_on (drop l.at l.bits))) ≡ repeated l.fn.keys (map (key l.front) (clocks_on l.bits)))
    × (with_names l.keys (map text (map (key l.front) (clocks_on (drop l.at l.bits)))) ≡ with_names l.fn.keys (map text (map (key l.front) (clocks_on l.bits))))

abbrev pub decreases-bits : goal.decreases-bits
decreases-bits l = length l.bits - l.at
