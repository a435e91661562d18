use Rattle.std.proofs.Common.{◌≡◌, map, take}
use Rattle.channel_parts.specs.LinkedParts.{channel_net}
use Rattle.channel_parts.proofs.channels.channel_nets.Given as goal

-- the nets so far
abbrev pub invariant-loop-net : goal.invariant-loop-net
invariant-loop-net l = l.list ≡ map channel_net (take l.net-index l.nets)
