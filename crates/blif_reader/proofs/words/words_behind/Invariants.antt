use Rattle.std.proofs.Common.{◌≡◌, drop}
use Rattle.text_lines.specs.Bytes.{words_of}
use Rattle.blif_reader.proofs.words.words_behind.Given as goal

-- as many words are still to be passed
abbrev pub invariant-words : goal.invariant-words
invariant-words l = drop l.left (words_of l.rest) ≡ drop l.fn.count (words_of l.fn.line)

abbrev pub decreases-words : goal.decreases-words
decreases-words l = l.left
