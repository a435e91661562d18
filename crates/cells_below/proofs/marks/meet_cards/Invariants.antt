use Rattle.std.proofs.Common.{take}
use Rattle.cells_below.specs.Met.{numbers_on}
use Rattle.nesting.specs.Reached.{HasMet}
use Rattle.cells_below.proofs.marks.meet_cards.Given as goal

-- the cells on the cards so far are met
abbrev pub invariant-loop-card : goal.invariant-loop-card
invariant-loop-card l = HasMet l.initial.marks.items l.marks.items l.initial.met l.met (numbers_on l.index (take l.card-index l.cards))
