use Rattle.std.proofs.Common.{◌≡◌, length}
use Rattle.names.specs.Names.{with_names}
use Rattle.text_lines.specs.Bytes.{words_of}
use Rattle.rules_reader.proofs.judge.add_names.Given as goal

-- the names so far
abbrev pub invariant-names : goal.invariant-names
invariant-names l = with_names l.known (words_of l.rest) ≡ with_names l.fn.known l.names

abbrev pub decreases-names : goal.decreases-names
decreases-names l = length l.rest
