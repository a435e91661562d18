use Rattle.std.proofs.Common.{◌≡◌, ◌≤◌, ◌+◌, suc, length}
use Rattle.text_lines.specs.Bytes.{words_of}
use Rattle.blif_reader.proofs.card_words.count_with_first.Given as goal

-- those so far and those of the rest
abbrev pub invariant-words : goal.invariant-words
invariant-words l = (l.count + length l.rest ≤ length l.fn.line + 1) × (l.count + length (words_of l.rest) ≡ suc (length (words_of l.fn.line)))

abbrev pub decreases-words : goal.decreases-words
decreases-words l = length l.rest
