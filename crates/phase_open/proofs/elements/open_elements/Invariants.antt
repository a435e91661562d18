use Rattle.std.proofs.Common.{◌≡◌, ℕ, ◌+◌, ◌<◌, ◌≤◌}
use Rattle.bdd_core.specs.Diagram.{Valuation}
use Rattle.bdd_core.specs.Words.{Writes, shows}
use Rattle.bdd_ops.specs.Counting.{IsCounted}
use Rattle.phase_open.proofs.elements.open_elements.Given as goal

abbrev pub invariant-loop-e : goal.invariant-loop-e
invariant-loop-e l = record {
  writes : Writes l.fn.held l.fn.store l.store;
  counted : (u : ℕ) → l.fn.first + l.fn.held.len ≤ u → IsCounted u l.e l.fn.store l.store;
  elements : (j : ℕ) → j < l.e → (v : Valuation) → shows l.store l.fn.held j v ≡ v (l.fn.first + j);
}
