use Rattle.bdd_ops.specs.Counting.{IsSpanWithin}
use Rattle.path_fixpoint.specs.Spending.{Rewrites}
use Rattle.std.proofs.Common.{ℕ, ◌<◌}
use Rattle.path_fixpoint.specs.Openings.{TakesAbove}
use Rattle.path_fixpoint.specs.Strengths.{ChangesLevel}
use Rattle.bdd_core.specs.Words.{Writes}
use Rattle.path_fixpoint.proofs.opening.take_above.Given as goal

abbrev pub invariant-loop-i : goal.invariant-loop-i
invariant-loop-i l = record {
  writes : Writes l.fn.out.span l.fn.store l.store;
  apart : ChangesLevel l.fn.out l.fn.level l.fn.store l.store;
  taken : (i : ℕ) → i < l.i → TakesAbove l.fn.out l.fn.level l.fn.store l.store i;
  few : (u : ℕ) → IsSpanWithin u l.fn.store l.fn.out.span → Rewrites u l.fn.out.span l.fn.store l.store;
}
