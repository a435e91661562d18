use Rattle.std.proofs.Common.{◌≡◌, take}
use Rattle.channel_parts.specs.PartLists.{device_numbers}
use Rattle.channel_parts.proofs.assembly.devices_of.Given as goal

-- the numbers so far
abbrev pub invariant-loop-number : goal.invariant-loop-number
invariant-loop-number l = device_numbers l.devices ≡ take l.number-index l.numbers
