use Rattle.bdd_ops.specs.Counting.{IsSpanWithin}
use Rattle.path_fixpoint.specs.Spending.{Rewrites}
use Rattle.std.proofs.Common.{◌≡◌, ℕ, ◌<◌, ◌≤◌}
use Rattle.vrt_model.specs.Lists.{At}
use Rattle.vrt_model.specs.Path.{level_of_drive}
use Rattle.vrt_model.specs.declared.whole.WholePin.{WholePin}
use Rattle.path_fixpoint.specs.Openings.{IsPinAt, OnlyBy, mark_of}
use Rattle.path_fixpoint.specs.Parts.{IsPlace}
use Rattle.path_fixpoint.specs.Strengths.{ChangesLevel}
use Rattle.bdd_core.specs.Words.{Writes}
use Rattle.path_fixpoint.proofs.opening.mark_outputs.Given as goal

abbrev pub invariant-loop-at : goal.invariant-loop-at
invariant-loop-at l = record {
  writes : Writes l.fn.out.span l.fn.store l.store;
  apart : ChangesLevel l.fn.out l.fn.level l.fn.store l.store;
  marked : (k : ℕ) → k < l.at → (pin : WholePin) → At l.outputs k pin → l.fn.level ≤ level_of_drive l.fn.out.source pin.drive → (i : ℕ) → IsPlace l.part i pin.net.0
      → mark_of l.store l.fn.out l.fn.level i ≡ 1;
  only : OnlyBy l.fn.out l.fn.level (IsPinAt l.fn.out.source l.part l.outputs l.fn.level) l.fn.store l.store;
  few : (u : ℕ) → IsSpanWithin u l.fn.store l.fn.out.span → Rewrites u l.fn.out.span l.fn.store l.store;
}
