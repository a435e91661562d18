use Rattle.std.proofs.Common.{◌≤◌, ◌+◌, length}
use Rattle.blif_reader.specs.Opened.{cards_left}
use Rattle.blif_reader.specs.Learned.{Reads}
use Rattle.blif_reader.proofs.check.take_all.Given as goal

-- no card so far has a fault
abbrev pub invariant-cards : goal.invariant-cards
invariant-cards l =
    Reads (cards_left l.fn.reading.number l.fn.reading.bytes.now l.fn.reading.opened) (cards_left l.reading.number l.reading.bytes.now l.reading.opened) l.known l.cards
    × (l.reading.number + length l.reading.bytes.now ≤ l.fn.reading.number + length l.fn.reading.bytes.now)

abbrev pub decreases-cards : goal.decreases-cards
decreases-cards l = length (cards_left l.reading.number l.reading.bytes.now l.reading.opened)
