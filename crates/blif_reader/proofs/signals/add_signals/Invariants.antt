use Rattle.std.proofs.Common.{List, length, map}
use Rattle.text_lines.specs.Bytes.{words_of}
use Rattle.blif_reader.specs.Built.{AreAmong, AreListed, with_signals}
use Rattle.blif_reader.specs.Models.{Listed, listed_on}
use Rattle.blif_reader.proofs.signals.add_signals.Given as goal

-- the signals so far, with those of the rest
abbrev pub invariant-names : goal.invariant-names
invariant-names l =
    (found : List Listed) → AreListed l.fn.seen l.fn.numbers found
    → AreAmong l.seen l.numbers (map (listed_on l.line) (words_of l.left)) (with_signals found (map (listed_on l.line) (words_of l.listing)))

abbrev pub decreases-names : goal.decreases-names
decreases-names l = length l.left
