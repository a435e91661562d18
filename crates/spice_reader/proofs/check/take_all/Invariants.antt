use Rattle.std.proofs.Common.{◌≤◌, ◌+◌, length}
use Rattle.spice_reader.specs.Learned.{Reads}
use Rattle.spice_reader.specs.Opened.{cards_left}
use Rattle.spice_reader.proofs.check.take_all.Given as goal

-- the cards so far have no fault, and those that the design tells of are kept
abbrev pub invariant-cards : goal.invariant-cards
invariant-cards l =
    Reads (cards_left l.fn.reading.number l.fn.reading.bytes.now l.fn.reading.opened) (cards_left l.reading.number l.reading.bytes.now l.reading.opened) l.known l.kept
    × (l.reading.number + length l.reading.bytes.now ≤ l.fn.reading.number + length l.fn.reading.bytes.now)

abbrev pub decreases-cards : goal.decreases-cards
decreases-cards l = length (cards_left l.reading.number l.reading.bytes.now l.reading.opened)
