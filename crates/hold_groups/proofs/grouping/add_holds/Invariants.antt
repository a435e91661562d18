use Rattle.std.proofs.Common.{take}
use Rattle.vrt_model.specs.Groups.{holds_by_net}
use Rattle.hold_groups.specs.Steps.{AreGrouped}
use Rattle.hold_groups.proofs.grouping.add_holds.Given as goal

-- the groups of the holds so far
abbrev pub invariant-loop-place : goal.invariant-loop-place
invariant-loop-place l = AreGrouped l.elements.list (take l.place-index (holds_by_net l.circuit)) l.keys l.groups.items
