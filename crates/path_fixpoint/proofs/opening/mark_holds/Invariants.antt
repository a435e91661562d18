use Rattle.bdd_ops.specs.Counting.{IsSpanWithin}
use Rattle.path_fixpoint.specs.Spending.{Rewrites}
use Rattle.std.proofs.Common.{◌≡◌, ℕ, ◌<◌, ◌≤◌}
use Rattle.vrt_model.specs.Lists.{At}
use Rattle.vrt_model.specs.declared.circuit.Hold.{Hold}
use Rattle.path_fixpoint.specs.Openings.{IsHoldAt, OnlyBy, mark_of}
use Rattle.path_fixpoint.specs.Parts.{IsPlace}
use Rattle.path_fixpoint.specs.Strengths.{ChangesLevel}
use Rattle.bdd_core.specs.Words.{Writes}
use Rattle.path_fixpoint.proofs.opening.mark_holds.Given as goal

abbrev pub invariant-loop-hold : goal.invariant-loop-hold
invariant-loop-hold l = record {
  writes : Writes l.fn.out.span l.fn.store l.store;
  apart : ChangesLevel l.fn.out l.fn.level l.fn.store l.store;
  marked : (k : ℕ) → k < l.hold-index → (hold : Hold) → At l.circuit.holds k hold → l.fn.level ≤ hold.size → (i : ℕ) → IsPlace l.part i hold.net.0 → mark_of l.store l.fn.out l.fn.level i ≡ 1;
  only : OnlyBy l.fn.out l.fn.level (IsHoldAt l.circuit l.part l.fn.level) l.fn.store l.store;
  few : (u : ℕ) → IsSpanWithin u l.fn.store l.fn.out.span → Rewrites u l.fn.out.span l.fn.store l.store;
}
