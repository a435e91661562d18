use Rattle.std.proofs.Common.{arith}
use Rattle.net_tables.proofs.OwnLaws.{owns_end, owns_on}
use Rattle.net_tables.specs.Names.{device_names, shared_in}
use Rattle.net_tables.proofs.own.add_devices.Goals as goal

pub loop-card-preserved : goal.loop-card-preserved
loop-card-preserved c =
    owns_on (shared_in c.args.shared.now c.args.ports.now) device_names c.loop-card.card-index c.args.cards.now _ c.loop-card.own c.add_device.new.own _ (omega arith) c.card-item.is
    c.in_ok-add_device.ensures c.loop-card.invariant

pub returns : goal.returns
returns c =
    owns_end (shared_in c.args.shared.now c.args.ports.now) device_names c.loop-card.card-index c.args.cards.now c.loop-card.own _ (omega arith) c.loop-card.invariant
