use Rattle.std.proofs.Common.{refl}
use Rattle.flat_devices.proofs.devices.device.Goals as goal

pub flat_net-requires : goal.flat_net-requires
flat_net-requires c i e = c.requires c.args.nets.gate (1, refl) i e

pub flat_net-requires-2 : goal.flat_net-requires-2
flat_net-requires-2 c i e = c.requires c.args.nets.drain (0, refl) i e

pub flat_net-requires-3 : goal.flat_net-requires-3
flat_net-requires-3 c i e = c.requires c.args.nets.source (2, refl) i e
