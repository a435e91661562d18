use Rattle.std.proofs.Common.{◌≡◌, ◌++◌, length, map}
use Rattle.rules_reader.specs.Tables.{number_in}
use Rattle.text_lines.specs.Bytes.{words_of}
use Rattle.rules_reader.proofs.clocked_rules.numbers.Given as goal

-- the names so far, and the rest
abbrev pub invariant-names : goal.invariant-names
invariant-names l = l.found ++ map (number_in l.phases) (words_of l.rest) ≡ map (number_in l.phases) l.names

abbrev pub decreases-names : goal.decreases-names
decreases-names l = length l.rest
