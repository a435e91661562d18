use Rattle.std.proofs.Common.{drop}
use Rattle.flat_sizes.proofs.StandLaws.{tally_of}
use Rattle.flat_sizes.proofs.Tallies.{Adding}
use Rattle.flat_sizes.specs.Totals.{AreNumbered}
use Rattle.vrt_model.specs.declared.design.Design.{Design}
use Rattle.flat_sizes.proofs.stands.add_cards.Given as goal

-- what is added so far, with the cards that are left
abbrev pub invariant-loop-card : goal.invariant-loop-card
invariant-loop-card l =
    (design : Design) → AreNumbered design l.cells → Adding design l.cards l.count (tally_of l.fn.stands.items) (tally_of l.stands.items) (drop l.card-index l.cards)
