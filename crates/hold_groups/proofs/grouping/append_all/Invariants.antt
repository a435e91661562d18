use Rattle.std.proofs.Common.{◌≡◌, ◌++◌}
use Rattle.hold_groups.proofs.grouping.append_all.Given as goal

-- the groups so far, and those that are left
abbrev pub invariant-loop-group : goal.invariant-loop-group
invariant-loop-group l = l.list ++ l.group-iterator.rest.items ≡ l.initial.list ++ l.fn.groups.items
