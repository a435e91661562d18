use Rattle.std.proofs.Common.{arith}
use Rattle.vrt_model.specs.declared.design.DeviceCard.{DeviceCard}
use Rattle.hierarchy.proofs.SetLaws.{names_end}
use Rattle.hierarchy.proofs.sets.add_devices.Goals as goal

pub returns : goal.returns
returns c = names_end (λ (x : DeviceCard). x.name) c.loop-device.device-index c.args.devices.now c.loop-device.names _ (omega arith) c.loop-device.invariant
