use Rattle.std.proofs.Common.{arith}
use Rattle.flatten.proofs.NetTurns.{cards_kept, cards_on}
use Rattle.rule_index.specs.Tables.{supply_in}
use Rattle.flatten.proofs.net_names.add_cards.Goals as goal

pub loop-card-preserved : goal.loop-card-preserved
loop-card-preserved c =
    cards_on (supply_in c.args.supplies.now) c.loop-card.card-index c.args.cards.now _ _ _ _ (omega arith) c.card-item.is c.in_ok-add_card.ensures c.loop-card.invariant

pub returns : goal.returns
returns c = cards_kept (supply_in c.args.supplies.now) c.loop-card.card-index c.args.cards.now c.loop-card.names _ (omega arith) c.loop-card.invariant
