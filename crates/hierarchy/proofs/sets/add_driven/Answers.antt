use Rattle.std.proofs.Common.{arith}
use Rattle.hierarchy.proofs.SetLaws.{groups_end, groups_on}
use Rattle.hierarchy.specs.Sets.{device_nets}
use Rattle.hierarchy.proofs.sets.add_driven.Goals as goal

pub loop-device-preserved : goal.loop-device-preserved
loop-device-preserved c =
    groups_on device_nets c.loop-device.device-index c.args.devices.now _ c.loop-device.names c.add_device_nets.new.names _ (omega arith) c.device-item.is c.in_ok-add_device_nets.ensures c.loop-device.invariant

pub returns : goal.returns
returns c = groups_end device_nets c.loop-device.device-index c.args.devices.now c.loop-device.names _ (omega arith) c.loop-device.invariant
