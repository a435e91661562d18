use Rattle.std.proofs.Common.{◌≡◌, ◌≤◌, ◌+◌, length}
use Rattle.text_lines.specs.Bytes.{words_of}
use Rattle.spice_reader.proofs.words.has_fewer.Given as goal

-- as many words as places so far
abbrev pub invariant-words : goal.invariant-words
invariant-words l = (l.left ≤ l.count) × (length (words_of l.fn.line) + l.left ≡ length (words_of l.rest) + l.count)

abbrev pub decreases-words : goal.decreases-words
decreases-words l = l.left
