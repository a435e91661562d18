use Rattle.flat_sizes.proofs.CardLaws.{owns_are}
use Rattle.flat_sizes.proofs.last_mentions.own_count.Goals as goal

pub returns : goal.returns
returns c = owns_are c.args.design.now c.args.rules.now c.args.cell.now _ _ _ c.own_of_devices-first.ensures c.own_of_instances.ensures c.saturating_add.ensures
