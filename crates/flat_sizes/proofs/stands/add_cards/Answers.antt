use Rattle.std.proofs.Common.{arith}
use Rattle.flat_sizes.proofs.StandLaws.{card_stands, cards_stand}
use Rattle.flat_sizes.proofs.stands.add_cards.Goals as goal

pub loop-card-preserved : goal.loop-card-preserved
loop-card-preserved c = λ design numbered.
    card_stands design c.args.cells.now numbered c.args.cards.now c.args.count c.loop-card.card-index c.cell_number-cell.result c.card-item.result c.args.stands.now.items c.loop-card.stands.items
    c.add.new.stands.items (omega arith) c.card-item.is c.cell_number-cell.ensures c.in_ok-add.ensures (c.loop-card.invariant design numbered)

pub returns : goal.returns
returns c = λ design numbered.
    cards_stand design c.args.cards.now c.args.count c.loop-card.card-index c.args.stands.now.items c.loop-card.stands.items (omega arith) (c.loop-card.invariant design numbered)
