use Rattle.std.proofs.Common.{arith, []}
use Rattle.flatten.proofs.NetTurns.{names_kept, names_on}
use Rattle.flatten.proofs.net_names.name_cards.Goals as goal

pub loop-card-preserved : goal.loop-card-preserved
loop-card-preserved c =
    names_on c.loop-card.card-index c.args.cards.now _ _ _ _ (omega arith) c.card-item.is c.in_ok-name_card.ensures c.loop-card.invariant

pub returns : goal.returns
returns c = names_kept c.loop-card.card-index c.args.cards.now c.loop-card.names [] (omega arith) c.loop-card.invariant
