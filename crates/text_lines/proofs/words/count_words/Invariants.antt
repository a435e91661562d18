use Rattle.std.proofs.Common.{◌≡◌, ◌≤◌, ◌+◌, length}
use Rattle.text_lines.specs.Bytes.{words_of}
use Rattle.text_lines.proofs.words.count_words.Given as goal

-- those so far and those of the rest
abbrev pub invariant-words : goal.invariant-words
invariant-words l = (l.count + length l.rest ≤ length l.fn.line) × (l.count + length (words_of l.rest) ≡ length (words_of l.fn.line))

abbrev pub decreases-words : goal.decreases-words
decreases-words l = length l.rest
