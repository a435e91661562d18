use Rattle.std.proofs.Common.{arith, subst, ℕ}
use Rattle.flat_sizes.proofs.Tallies.{card_added}
use Rattle.flat_sizes.proofs.TotalLaws.{tally_of}
use Rattle.flat_sizes.specs.Totals.{CountsOne}
use Rattle.flat_sizes.proofs.totals.add_cards.Goals as goal

pub loop-card-preserved : goal.loop-card-preserved
loop-card-preserved c = record {
  level = card_added c.args.design.now c.args.cards.now c.args.count c.loop-card.card-index c.card-item.result (tally_of c.args.level.now) (tally_of c.loop-card.level) (tally_of c.add_cell.new.table) (omega arith) c.card-item.is
      (subst (λ (k : ℕ). CountsOne k c.args.count c.loop-card.level c.add_cell.new.table) c.cell_number-cell.ensures c.add_cell.ensures) c.loop-card.invariant.level;
  all = card_added c.args.design.now c.args.cards.now c.args.count c.loop-card.card-index c.card-item.result (tally_of c.args.all.now) (tally_of c.loop-card.all) (tally_of c.add_cell-in-loop-card.new.table) (omega arith) c.card-item.is
      (subst (λ (k : ℕ). CountsOne k c.args.count c.loop-card.all c.add_cell-in-loop-card.new.table) c.cell_number-cell.ensures c.add_cell-in-loop-card.ensures) c.loop-card.invariant.all;
}
