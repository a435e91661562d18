use Rattle.std.proofs.Common.{arith}
use Rattle.flat_sizes.proofs.OwnLaws.{names_end, names_on}
use Rattle.flat_sizes.specs.Mentions.{card_nets}
use Rattle.flat_sizes.proofs.own.add_devices.Goals as goal

pub loop-card-preserved : goal.loop-card-preserved
loop-card-preserved c = names_on card_nets c.loop-card.card-index c.args.cards.now _ c.loop-card.names _ _ (omega arith) c.card-item.is c.in_ok-add_device.ensures c.loop-card.invariant

pub returns : goal.returns
returns c = names_end card_nets c.loop-card.card-index c.args.cards.now c.loop-card.names _ (omega arith) c.loop-card.invariant
