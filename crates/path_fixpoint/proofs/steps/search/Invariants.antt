use Rattle.std.proofs.Common.{ℕ, ◌-◌, ◌<◌, ◌≤◌, length}
use Rattle.path_fixpoint.proofs.RangeLaws.{net_at}
use Rattle.path_fixpoint.proofs.steps.search.Given as goal

abbrev pub invariant-halves : goal.invariant-halves
invariant-halves l = record {
  order : l.low ≤ l.high;
  inside : l.high ≤ length l.part.nets;
  below : (i : ℕ) → i < l.low → net_at l.part.nets i < l.net.0;
  above : (i : ℕ) → l.high ≤ i → i < length l.part.nets → l.net.0 < net_at l.part.nets i;
}

abbrev pub decreases-halves : goal.decreases-halves
decreases-halves l = l.high - l.low
