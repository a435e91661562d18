use Rattle.std.proofs.Common.{◌≡◌, length}
use Rattle.std.specs.List.{list_any}
use Rattle.text_lines.specs.Bytes.{words_of}
use Rattle.blif_reader.specs.Refused.{is_bad_tie}
use Rattle.blif_reader.proofs.judge.has_bad_tie_among.Given as goal

-- none so far
abbrev pub invariant-words : goal.invariant-words
invariant-words l = list_any is_bad_tie (words_of l.left) ≡ list_any is_bad_tie (words_of l.line)

abbrev pub decreases-words : goal.decreases-words
decreases-words l = length l.left
