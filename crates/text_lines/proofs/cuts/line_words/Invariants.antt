use Rattle.std.proofs.Common.{◌≡◌, ◌++◌, length}
use Rattle.text_lines.specs.Bytes.{words_of}
use Rattle.text_lines.proofs.cuts.line_words.Given as goal

-- the words so far, and those of the rest
abbrev pub invariant-cuts : goal.invariant-cuts
invariant-cuts l = l.texts ++ words_of l.rest ≡ words_of l.fn.line

abbrev pub decreases-cuts : goal.decreases-cuts
decreases-cuts l = length l.rest
