use Rattle.std.proofs.Common.{◌≡◌, ◌++◌, take}
use Rattle.graphs.proofs.levels.add_all.Given as goal

-- the waiters so far
abbrev pub invariant-loop-waiter : goal.invariant-loop-waiter
invariant-loop-waiter l = l.list ≡ l.initial.list ++ take l.waiter-index l.waiters
