use Rattle.std.proofs.Common.{◌≡◌, ◌≤◌, ◌+◌, length}
use Rattle.rules_reader.specs.Entries.{cards_left}
use Rattle.rules_reader.proofs.cards.next_card.Given as goal

-- the lines so far are passed over
abbrev pub invariant-lines : goal.invariant-lines
invariant-lines l =
    (cards_left l.reading.number l.reading.bytes.now ≡ cards_left l.fn.reading.number l.fn.reading.bytes.now)
    × (l.reading.number + length l.reading.bytes.now ≤ l.fn.reading.number + length l.fn.reading.bytes.now)

abbrev pub decreases-lines : goal.decreases-lines
decreases-lines l = length l.reading.bytes.now
