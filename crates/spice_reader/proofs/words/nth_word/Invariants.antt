use Rattle.std.proofs.Common.{◌≡◌, length}
use Rattle.text_lines.specs.Words.{word_at}
use Rattle.text_lines.specs.Bytes.{words_of}
use Rattle.spice_reader.proofs.words.nth_word.Given as goal

-- not there yet
abbrev pub invariant-words : goal.invariant-words
invariant-words l = word_at (words_of l.rest) l.left ≡ word_at (words_of l.fn.line) l.fn.at

abbrev pub decreases-words : goal.decreases-words
decreases-words l = length l.rest
