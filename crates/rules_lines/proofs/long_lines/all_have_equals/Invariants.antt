use Rattle.std.proofs.Common.{◌≡◌, length}
use Rattle.std.specs.List.{list_all}
use Rattle.text_lines.specs.Bytes.{words_of}
use Rattle.rules_lines.specs.Lines.{has_equals}
use Rattle.rules_lines.proofs.long_lines.all_have_equals.Given as goal

-- none without `=` so far
abbrev pub invariant-words : goal.invariant-words
invariant-words l = list_all has_equals (words_of l.rest) ≡ list_all has_equals (words_of l.fn.line)

abbrev pub decreases-words : goal.decreases-words
decreases-words l = length l.rest
