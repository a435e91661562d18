use Rattle.std.proofs.Common.{take}
use Rattle.std.specs.Prelude.{filter}
use Rattle.channel_parts.specs.Groups.{AreMade, is_head}
use Rattle.channel_parts.proofs.assembly.parts_of.Given as goal

-- the parts of the least nets so far
abbrev pub invariant-loop-pair : goal.invariant-loop-pair
invariant-loop-pair l = AreMade l.nets l.devices (filter is_head (take l.pair-index l.order)) l.list
