use Rattle.std.proofs.Common.{ℕ, ◌+◌, ◌<◌, ◌≤◌}
use Rattle.path_fixpoint.proofs.RangeLaws.{net_at}
use Rattle.path_fixpoint.proofs.ranges.rises.Given as goal

abbrev pub invariant-loop-at : goal.invariant-loop-at
invariant-loop-at l = record {
  some : 1 ≤ l.at;
  next : (j : ℕ) → j + 1 < l.at → net_at l.part.nets j < net_at l.part.nets (j + 1);
}
