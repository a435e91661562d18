use Rattle.std.proofs.Common.{◌≡◌, ◌∷◌, length}
use Rattle.text_lines.specs.Bytes.{words_of}
use Rattle.text_lines.specs.Words.{last_word}
use Rattle.blif_reader.proofs.words.last_of.Given as goal

-- the last so far, before those of the rest
abbrev pub invariant-words : goal.invariant-words
invariant-words l = last_word (l.last ∷ words_of l.left) ≡ last_word (l.first ∷ words_of l.rest)

abbrev pub decreases-words : goal.decreases-words
decreases-words l = length l.left
