use Rattle.std.proofs.Common.{◌≡◌, ℕ, List, [], length}
use Rattle.graphs.specs.declared.levels.Waiter.{Waiter}
use Rattle.vrt_model.specs.Lists.{At}
use Rattle.graphs.proofs.levels.none_waiting.Given as goal

abbrev pub invariant-loop-number : goal.invariant-loop-number
invariant-loop-number l = record {
  len : length l.waiting.items ≡ l._number;
  empty : (k : ℕ) (row : List Waiter) → At l.waiting.items k row → row ≡ [];
}
