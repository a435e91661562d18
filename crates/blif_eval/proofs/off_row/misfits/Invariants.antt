use Rattle.std.proofs.Common.{ℕ, ◌≤◌, Ok, drop, length}
use Rattle.bdd_core.specs.Store.{Gives}
use Rattle.bdd_ops.specs.Counting.{IsCounted, IsSpanWithin}
use Rattle.blif_eval.proofs.RowLaws.{row_misses}
use Rattle.vrt_model.specs.Budget.{literals_in}
use Rattle.blif_eval.proofs.off_row.misfits.Given as goal

-- the part of the row from a place on
abbrev pub invariant-back : goal.invariant-back
invariant-back l = record {
  most : l.at ≤ length l.inputs;
  gives : Gives l.fn.store l.store (row_misses l.fn.store l.values l.inputs l.row l.at) (Ok l.rest);
  counted : (u : ℕ) → IsSpanWithin u l.fn.store l.values → IsCounted u (literals_in (drop l.at l.row)) l.fn.store l.store;
}

abbrev pub decreases-back : goal.decreases-back
decreases-back l = l.at
