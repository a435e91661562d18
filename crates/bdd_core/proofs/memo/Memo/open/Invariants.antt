use Rattle.std.proofs.Common.{◌≤◌, ◌-◌}
use Rattle.bdd_core.proofs.memo.Memo.open.Given as goal

abbrev pub invariant-loop-room : goal.invariant-loop-room
invariant-loop-room l = (512 ≤ l.room) × (l.room ≤ 1073741824)

abbrev pub decreases-loop-room : goal.decreases-loop-room
decreases-loop-room l = l.most - l.room
