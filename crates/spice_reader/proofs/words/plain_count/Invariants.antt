use Rattle.std.proofs.Common.{◌≡◌, ◌≤◌, ◌+◌, length}
use Rattle.spice_reader.specs.Netlist.{plain_words}
use Rattle.text_lines.specs.Bytes.{words_of}
use Rattle.spice_reader.proofs.words.plain_count.Given as goal

-- no parameter so far
abbrev pub invariant-words : goal.invariant-words
invariant-words l = (l.count + length l.rest ≤ length l.fn.line) × (l.count + length (plain_words (words_of l.rest)) ≡ length (plain_words (words_of l.fn.line)))

abbrev pub decreases-words : goal.decreases-words
decreases-words l = length l.rest
