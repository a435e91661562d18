use Rattle.std.proofs.Common.{◌≡◌, ℕ, ◌<◌, length, get_or, vec_capacity}
use Rattle.node_pool.proofs.chains.clear.Given as goal

abbrev pub invariant-loop-at : goal.invariant-loop-at
invariant-loop-at l = record {
  zeros : (b : ℕ) → b < l.at → get_or l.heads.items b 0 ≡ 0;
  len : length l.heads.items ≡ length l.initial.heads.items;
  capacity : vec_capacity l.heads ≡ vec_capacity l.initial.heads;
}
