use Rattle.std.proofs.Common.{◌≡◌, ◌++◌, map, length}
use Rattle.text_lines.specs.Bytes.{words_of}
use Rattle.rules_lines.specs.Lines.{clock_bit}
use Rattle.rules_lines.proofs.long_lines.clock_bits.Given as goal

-- the words so far, and those of the rest
abbrev pub invariant-words : goal.invariant-words
invariant-words l = l.bits ++ map clock_bit (words_of l.rest) ≡ map clock_bit (words_of l.fn.line)

abbrev pub decreases-words : goal.decreases-words
decreases-words l = length l.rest
