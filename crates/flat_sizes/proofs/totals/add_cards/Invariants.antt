use Rattle.std.proofs.Common.{drop}
use Rattle.flat_sizes.proofs.Tallies.{Adding}
use Rattle.flat_sizes.proofs.TotalLaws.{tally_of}
use Rattle.flat_sizes.proofs.totals.add_cards.Given as goal

-- what is added so far, with what the cards that are left add
abbrev pub invariant-loop-card : goal.invariant-loop-card
invariant-loop-card l = record {
  level : Adding l.design l.cards l.count (tally_of l.fn.level) (tally_of l.level) (drop l.card-index l.cards);
  all : Adding l.design l.cards l.count (tally_of l.fn.all) (tally_of l.all) (drop l.card-index l.cards);
}
