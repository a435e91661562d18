use Rattle.flat_sizes.proofs.NameLaws.{by_device, by_tie}
use Rattle.flat_sizes.proofs.mentions.is_mentioned.Goals as goal

pub returns-then-some_device : goal.returns-then-some_device
returns-then-some_device c = by_device c.args.devices.now c.args.instances.now c.args.name.now _ c.some_device.ensures c.if-some_device.true

pub returns-else-some_device : goal.returns-else-some_device
returns-else-some_device c = by_tie c.args.devices.now c.args.instances.now c.args.name.now _ _ c.some_device.ensures c.if-some_device.false c.is_tied.ensures
