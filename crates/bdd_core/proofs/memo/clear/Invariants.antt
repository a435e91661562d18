use Rattle.std.proofs.Common.{◌≡◌, ℕ, ◌<◌, length, vec_capacity}
use Rattle.bdd_core.specs.Memo.{no_pair, pair_at}
use Rattle.bdd_core.proofs.memo.clear.Given as goal

abbrev pub invariant-loop-at : goal.invariant-loop-at
invariant-loop-at l = record {
  empty : (k : ℕ) → k < l.at → pair_at l.pairs.items k ≡ no_pair;
  len : length l.pairs.items ≡ length l.initial.pairs.items;
  capacity : vec_capacity l.pairs ≡ vec_capacity l.initial.pairs;
}
