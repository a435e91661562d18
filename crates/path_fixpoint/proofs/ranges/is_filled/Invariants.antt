use Rattle.std.proofs.Common.{ℕ, ◌<◌, length}
use Rattle.bdd_core.specs.Words.{word_at}
use Rattle.path_fixpoint.proofs.ranges.is_filled.Given as goal

abbrev pub invariant-loop-at : goal.invariant-loop-at
invariant-loop-at l = record {
  live : (k : ℕ) → k < l.at → word_at l.store l.fn.span k < length l.store.nodes;
}
