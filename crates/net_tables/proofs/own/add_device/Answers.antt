use Rattle.net_tables.proofs.OwnLaws.{owns_three}
use Rattle.net_tables.specs.Names.{shared_in}
use Rattle.net_tables.proofs.own.add_device.Goals as goal

pub returns : goal.returns
returns c =
    owns_three (shared_in c.args.shared.now c.args.ports.now) c.args.own.now c.args.card.now.drain c.args.card.now.gate c.args.card.now.source _ _ _ _ _ _
    c.as_bytes.ensures c.as_bytes-2.ensures c.as_bytes-3.ensures c.in_ok-add_name.ensures c.in_ok-add_name-2.ensures c.in_ok-add_name-3.ensures
