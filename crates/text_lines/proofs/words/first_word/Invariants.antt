use Rattle.std.proofs.Common.{◌≡◌, ◌≤◌, length}
use Rattle.text_lines.specs.Bytes.{words_of}
use Rattle.text_lines.proofs.words.first_word.Given as goal

-- no word so far
abbrev pub invariant-cuts : goal.invariant-cuts
invariant-cuts l = (length l.rest ≤ length l.fn.line) × (words_of l.rest ≡ words_of l.fn.line)

abbrev pub decreases-cuts : goal.decreases-cuts
decreases-cuts l = length l.rest
