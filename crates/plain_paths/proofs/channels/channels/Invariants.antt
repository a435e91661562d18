use Rattle.std.proofs.Common.{◌≡◌, take}
use Rattle.plain_paths.specs.Channels.{channels_over}
use Rattle.vrt_model.specs.Lists.{bit_at}
use Rattle.plain_paths.proofs.channels.channels.Given as goal

-- the channels of the devices so far
abbrev pub invariant-loop-device : goal.invariant-loop-device
invariant-loop-device l = l.channels.items ≡ channels_over l.bare (bit_at l.reading) (take l.device-index l.circuit.devices)
