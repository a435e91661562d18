use Rattle.std.proofs.Common.{◌≡◌, length}
use Rattle.names.specs.Names.{with_names}
use Rattle.text_lines.specs.Bytes.{words_of}
use Rattle.spice_reader.proofs.build.add_words.Given as goal

-- the words so far, with those of the rest
abbrev pub invariant-words : goal.invariant-words
invariant-words l = with_names l.names (words_of l.rest) ≡ with_names l.fn.names (words_of l.line)

abbrev pub decreases-words : goal.decreases-words
decreases-words l = length l.rest
