use Rattle.std.proofs.Common.{ℕ, ◌≤◌, Ok, drop, length}
use Rattle.std.specs.Prelude.{set}
use Rattle.bdd_ops.specs.Counting.{IsCounted, IsSpanWithin}
use Rattle.blif_eval.proofs.RowLaws.{row_from}
use Rattle.bdd_core.specs.Store.{Gives}
use Rattle.vrt_model.specs.Budget.{literals_in}
use Rattle.blif_eval.proofs.cover.row_diagram.Given as goal

-- the part of the row from a place on, but for the place that is left out
abbrev pub invariant-back : goal.invariant-back
invariant-back l = record {
  most : l.at ≤ length l.inputs;
  gives : Gives l.fn.store l.store (row_from l.fn.store l.values l.inputs (set l.row l.left_out 45) l.at) (Ok l.fits);
  counted : (u : ℕ) → IsSpanWithin u l.fn.store l.values → IsCounted u (literals_in (drop l.at (set l.row l.left_out 45))) l.fn.store l.store;
}

abbrev pub decreases-back : goal.decreases-back
decreases-back l = l.at
