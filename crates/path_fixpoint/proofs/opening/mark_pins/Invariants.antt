use Rattle.bdd_ops.specs.Counting.{IsSpanWithin}
use Rattle.path_fixpoint.specs.Spending.{Rewrites}
use Rattle.std.proofs.Common.{◌≡◌, ℕ, ◌<◌}
use Rattle.vrt_model.specs.Lists.{At}
use Rattle.vrt_model.specs.declared.whole.Whole.{Whole}
use Rattle.path_fixpoint.specs.Openings.{IsPinAt, OnlyBy, mark_of}
use Rattle.path_fixpoint.specs.Parts.{pins_of}
use Rattle.path_fixpoint.specs.Strengths.{ChangesLevel}
use Rattle.bdd_core.specs.Words.{Writes}
use Rattle.path_fixpoint.proofs.opening.mark_pins.Given as goal

abbrev pub invariant-loop-whole : goal.invariant-loop-whole
invariant-loop-whole l = record {
  writes : Writes l.fn.out.span l.fn.store l.store;
  apart : ChangesLevel l.fn.out l.fn.level l.fn.store l.store;
  marked : (k : ℕ) → k < l.whole-index → (w : Whole) → At l.circuit.wholes k w → (i : ℕ) → IsPinAt l.fn.out.source l.part w.outputs l.fn.level i → mark_of l.store l.fn.out l.fn.level i ≡ 1;
  only : OnlyBy l.fn.out l.fn.level (IsPinAt l.fn.out.source l.part (pins_of l.circuit) l.fn.level) l.fn.store l.store;
  few : (u : ℕ) → IsSpanWithin u l.fn.store l.fn.out.span → Rewrites u l.fn.out.span l.fn.store l.store;
}
