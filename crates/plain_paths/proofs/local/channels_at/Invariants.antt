use Rattle.std.proofs.Common.{◌≡◌, false, take}
use Rattle.plain_paths.specs.Channels.{channels_over}
use Rattle.plain_paths.specs.Local.{devices_at, filled_at}
use Rattle.plain_paths.proofs.local.channels_at.Given as goal

-- the channels of the devices so far
abbrev pub invariant-loop-number : goal.invariant-loop-number
invariant-loop-number l = l.channels.items ≡ channels_over false (filled_at l.bits) (devices_at l.circuit (take l.number-index l.devices))
