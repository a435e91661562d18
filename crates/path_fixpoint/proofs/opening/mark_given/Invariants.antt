use Rattle.bdd_ops.specs.Counting.{IsSpanWithin}
use Rattle.path_fixpoint.specs.Spending.{Rewrites}
use Rattle.std.proofs.Common.{◌≡◌, ℕ, ◌<◌}
use Rattle.vrt_model.specs.Lists.{At}
use Rattle.vrt_model.specs.declared.ids.Net.{Net}
use Rattle.path_fixpoint.specs.Openings.{IsGivenAt, OnlyBy, mark_of}
use Rattle.path_fixpoint.specs.Parts.{IsGiven}
use Rattle.path_fixpoint.specs.Strengths.{ChangesLevel}
use Rattle.bdd_core.specs.Words.{Writes}
use Rattle.path_fixpoint.proofs.opening.mark_given.Given as goal

abbrev pub invariant-loop-net : goal.invariant-loop-net
invariant-loop-net l = record {
  writes : Writes l.fn.out.span l.fn.store l.store;
  apart : ChangesLevel l.fn.out l.fn.level l.fn.store l.store;
  marked : (k : ℕ) → k < l.net-index → (net : Net) → At l.part.nets k net → IsGiven l.circuit net.0 → mark_of l.store l.fn.out l.fn.level k ≡ 1;
  only : OnlyBy l.fn.out l.fn.level (IsGivenAt l.circuit l.part) l.fn.store l.store;
  few : (u : ℕ) → IsSpanWithin u l.fn.store l.fn.out.span → Rewrites u l.fn.out.span l.fn.store l.store;
}
