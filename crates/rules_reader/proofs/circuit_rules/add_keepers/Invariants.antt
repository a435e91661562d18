use Rattle.std.proofs.Common.{◌≡◌, ◌++◌, length, map}
use Rattle.rules_reader.specs.Tables.{keeper_rule}
use Rattle.text_lines.specs.Bytes.{words_of}
use Rattle.rules_reader.proofs.circuit_rules.add_keepers.Given as goal

-- the devices so far, and the rest
abbrev pub invariant-devices : goal.invariant-devices
invariant-devices l = l.rules ++ map (keeper_rule l.line l.cell) (words_of l.rest) ≡ l.fn.rules ++ map (keeper_rule l.line l.cell) l.devices

abbrev pub decreases-devices : goal.decreases-devices
decreases-devices l = length l.rest
