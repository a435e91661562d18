use Rattle.std.proofs.Common.{◌≡◌, length}
use Rattle.rules_reader.specs.Refused.{first_missing, known_from}
use Rattle.text_lines.specs.Bytes.{words_of}
use Rattle.rules_reader.proofs.conditions.first_missing_phase.Given as goal

-- all so far are known
abbrev pub invariant-names : goal.invariant-names
invariant-names l = first_missing (known_from l.phases) (words_of l.rest) ≡ first_missing (known_from l.phases) l.names

abbrev pub decreases-names : goal.decreases-names
decreases-names l = length l.rest
