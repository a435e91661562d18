use Rattle.std.proofs.Common.{◌≡◌, ◌≤◌, ◌+◌, length}
use Rattle.spice_reader.specs.Opened.{cards_ahead}
use Rattle.spice_reader.proofs.cards.next_closed.Given as goal

-- no card has ended so far
abbrev pub invariant-lines : goal.invariant-lines
invariant-lines l =
    (cards_ahead l.reading.number l.reading.bytes.now l.reading.opened ≡ cards_ahead l.fn.reading.number l.fn.reading.bytes.now l.fn.reading.opened)
    × (l.reading.number + length l.reading.bytes.now ≤ l.fn.reading.number + length l.fn.reading.bytes.now)

abbrev pub decreases-lines : goal.decreases-lines
decreases-lines l = length l.reading.bytes.now
