use Rattle.std.proofs.Common.{◌≤◌, ◌+◌, length}
use Rattle.rules_reader.specs.Entries.{cards_left}
use Rattle.rules_reader.specs.Learned.{Reads}
use Rattle.rules_reader.proofs.check.take_all.Given as goal

-- no line so far has a fault
abbrev pub invariant-cards : goal.invariant-cards
invariant-cards l =
    Reads (cards_left l.fn.reading.number l.fn.reading.bytes.now) (cards_left l.reading.number l.reading.bytes.now) l.known l.cards
    × (l.reading.number + length l.reading.bytes.now ≤ l.fn.reading.number + length l.fn.reading.bytes.now)

abbrev pub decreases-cards : goal.decreases-cards
decreases-cards l = length (cards_left l.reading.number l.reading.bytes.now)
