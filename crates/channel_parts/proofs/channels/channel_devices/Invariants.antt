use Rattle.std.proofs.Common.{◌≡◌, map, take}
use Rattle.channel_parts.specs.LinkedParts.{channel_device}
use Rattle.channel_parts.proofs.channels.channel_devices.Given as goal

-- the devices so far
abbrev pub invariant-loop-device : goal.invariant-loop-device
invariant-loop-device l = l.list ≡ map (channel_device l.gate.0) (take l.device-index l.devices)
