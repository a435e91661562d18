use Rattle.std.proofs.Common.{◌≡◌, map, take}
use Rattle.rules_reader.specs.Tables.{bit_for}
use Rattle.rules_reader.proofs.clocked_rules.bits_of.Given as goal

-- the clocks so far
abbrev pub invariant-loop-clock : goal.invariant-loop-clock
invariant-loop-clock l = l.found ≡ map (bit_for l.bits) (take l.clock-index l.clocks)
