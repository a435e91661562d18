use Rattle.std.proofs.Common.{◌≡◌, ◌++◌, length}
use Rattle.hold_groups.specs.Sources.{group_sources}
use Rattle.hold_groups.proofs.sources.add_groups.Given as goal

-- the groups so far, and those that are left
abbrev pub invariant-groups : goal.invariant-groups
invariant-groups l = l.sources ++ group_sources l.circuit l.phase l.number l.rest ≡ l.initial.sources ++ group_sources l.circuit l.phase 0 l.fn.groups

abbrev pub decreases-groups : goal.decreases-groups
decreases-groups l = length l.rest
