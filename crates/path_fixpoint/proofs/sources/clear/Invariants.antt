use Rattle.bdd_ops.specs.Counting.{IsSpanWithin}
use Rattle.path_fixpoint.specs.Spending.{Rewrites}
use Rattle.std.proofs.Common.{◌≡◌, ℕ, ◌<◌}
use Rattle.path_fixpoint.specs.Reaching.{slot_of}
use Rattle.path_fixpoint.specs.Strengths.{ChangesLevel, word_of}
use Rattle.bdd_core.specs.Words.{Writes, word_at}
use Rattle.path_fixpoint.proofs.sources.clear.Given as goal

abbrev pub invariant-loop-i : goal.invariant-loop-i
invariant-loop-i l = record {
  writes : Writes l.fn.out.span l.fn.store l.store;
  apart : ChangesLevel l.fn.out (slot_of l.fn.out l.fn.value) l.fn.store l.store;
  zero : (i : ℕ) → i < l.i → word_at l.store l.fn.out.span (word_of l.fn.out (slot_of l.fn.out l.fn.value) i) ≡ 0;
  few : (u : ℕ) → IsSpanWithin u l.fn.store l.fn.out.span → Rewrites u l.fn.out.span l.fn.store l.store;
}
