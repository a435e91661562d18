use Rattle.std.proofs.Common.{ℕ, ◌<◌, ◌≤◌, ◌+◌, ◌*◌, length}
use Rattle.bdd_ops.specs.Counting.{IsCounted, IsSpanWithin}
use Rattle.path_fixpoint.specs.Spending.{AreGatesWithin}
use Rattle.bdd_core.specs.Diagram.{Valuation}
use Rattle.vrt_model.specs.Path.{Network}
use Rattle.path_fixpoint.specs.Strengths.{HasLevel, StandsAt}
use Rattle.bdd_core.specs.Words.{Writes}
use Rattle.path_fixpoint.proofs.levels.levels.Given as goal

abbrev pub invariant-loop-done : goal.invariant-loop-done
invariant-loop-done l = record {
  writes : Writes l.fn.out.span l.fn.store l.store;
  levels : (v : Valuation) (w : Network) → StandsAt l.circuit l.part l.fn.gates l.fn.store v w → (level : ℕ) → l.fn.out.source < level + l.done → level ≤ l.fn.out.source → HasLevel l.part l.fn.out level l.store v w;
  few : (u : ℕ) → AreGatesWithin u l.circuit l.part l.fn.gates l.fn.store → IsSpanWithin u l.fn.store l.fn.out.span → IsCounted u (l.done * (length l.part.nets * (length l.part.devices * 4))) l.fn.store l.store × IsSpanWithin u l.store l.fn.out.span;
}
