use Rattle.std.proofs.Common.{◌≡◌, ◌≤◌, ◌+◌, length}
use Rattle.blif_reader.specs.Opened.{cards_left}
use Rattle.blif_reader.proofs.cards.next_card.Given as goal

-- no card has ended so far
abbrev pub invariant-lines : goal.invariant-lines
invariant-lines l =
    (cards_left l.reading.number l.reading.bytes.now l.reading.opened ≡ cards_left l.fn.reading.number l.fn.reading.bytes.now l.fn.reading.opened)
    × (l.reading.number + length l.reading.bytes.now ≤ l.fn.reading.number + length l.fn.reading.bytes.now)

abbrev pub decreases-lines : goal.decreases-lines
decreases-lines l = length l.reading.bytes.now
