use Rattle.std.proofs.Common.{◌≡◌, ◌++◌, length, map}
use Rattle.text_lines.specs.Bytes.{words_of}
use Rattle.blif_reader.specs.Models.{tie_of}
use Rattle.blif_reader.proofs.subs.ties_of.Given as goal

-- the ties so far, with those of the rest
abbrev pub invariant-words : goal.invariant-words
invariant-words l = l.ties ++ map tie_of (words_of l.left) ≡ map tie_of (words_of l.line)

abbrev pub decreases-words : goal.decreases-words
decreases-words l = length l.left
