use Rattle.std.proofs.Common.{◌≡◌, ◌++◌, length, map}
use Rattle.rules_reader.specs.Tables.{supply_rule}
use Rattle.text_lines.specs.Bytes.{words_of}
use Rattle.rules_reader.proofs.circuit_rules.add_supplies.Given as goal

-- the nets so far, and the rest
abbrev pub invariant-nets : goal.invariant-nets
invariant-nets l = l.rules ++ map (supply_rule l.line l.value) (words_of l.rest) ≡ l.fn.rules ++ map (supply_rule l.line l.value) l.nets

abbrev pub decreases-nets : goal.decreases-nets
decreases-nets l = length l.rest
