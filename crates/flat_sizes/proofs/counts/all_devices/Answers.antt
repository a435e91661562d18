use Rattle.std.proofs.Common.{◌∙◌}
use Rattle.flat_sizes.proofs.CountLaws.{devices_summed}
use Rattle.flat_sizes.proofs.counts.all_devices.Goals as goal

pub returns : goal.returns
returns c = c.saturating_add.ensures ∙ devices_summed c.args.design.now c.args.rules.now c.args.cell _ _ c.devices_of.ensures c.inner_count-inner.ensures
