use Rattle.std.proofs.Common.{ℕ, ◌-◌, ◌<◌, ◌+◌}
use Rattle.bdd_core.specs.Diagram.{IsWithin}
use Rattle.bdd_core.specs.Store.{AddsNodes, function_of}
use Rattle.bdd_ops.specs.Counting.{IsCounted, IsSpanWithin}
use Rattle.output_levels.specs.Always.{IsAlways, strong_at}
use Rattle.output_levels.proofs.level.least_strength.Given as goal

-- the strength is not everywhere at least the last level that was tried
abbrev pub invariant-loop-done : goal.invariant-loop-done
invariant-loop-done l = record {
  adds : AddsNodes l.fn.store l.store;
  above : 0 < l.done → ¬ IsAlways (function_of l.fn.store l.fn.care) (strong_at l.fn.store l.fn.out l.fn.place (l.fn.out.source + 1 - l.done));
  few : (u : ℕ) → IsWithin u (function_of l.fn.store l.fn.care) → IsSpanWithin u l.fn.store l.fn.out.span → IsCounted u l.done l.fn.store l.store;
}
