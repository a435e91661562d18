use Rattle.std.proofs.Common.{◌≡◌, ℕ, ◌<◌, length}
use Rattle.graphs.specs.declared.levels.Waiter.{Waiter}
use Rattle.vrt_model.specs.Lists.{At, Among}
use Rattle.graphs.proofs.levels.all_listed.Given as goal

-- the numbers so far
abbrev pub invariant-loop-number : goal.invariant-loop-number
invariant-loop-number l = record {
  len : length l.queue ≡ l.number;
  all : (n : ℕ) → n < l.number → (waiter : Waiter) × At l.queue n waiter × (waiter.node ≡ n);
  each : (waiter : Waiter) → Among l.queue waiter → (waiter.node < l.number) × (waiter.from ≡ 0);
}
