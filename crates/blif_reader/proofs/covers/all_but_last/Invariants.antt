use Rattle.std.proofs.Common.{◌≡◌, ◌++◌, ◌∷◌, length}
use Rattle.text_lines.specs.Bytes.{words_of}
use Rattle.text_lines.specs.Words.{but_last}
use Rattle.blif_reader.proofs.covers.all_but_last.Given as goal

-- the words so far, with those of the rest
abbrev pub invariant-words : goal.invariant-words
invariant-words l = l.texts ++ but_last (l.last ∷ words_of l.left) ≡ but_last (words_of l.line)

abbrev pub decreases-words : goal.decreases-words
decreases-words l = length l.left
