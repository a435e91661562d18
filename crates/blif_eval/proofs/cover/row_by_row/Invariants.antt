use Rattle.std.proofs.Common.{ℕ, Ok, take}
use Rattle.bdd_ops.specs.Counting.{IsCounted, IsSpanWithin}
use Rattle.blif_eval.proofs.RowLaws.{rows_upto}
use Rattle.bdd_core.specs.Store.{Gives}
use Rattle.blif_eval.specs.Operations.{rows_operations}
use Rattle.blif_eval.proofs.cover.row_by_row.Given as goal

-- the rows so far
abbrev pub invariant-loop-row : goal.invariant-loop-row
invariant-loop-row l = record {
  gives : Gives l.fn.store l.store (rows_upto l.fn.store l.values l.cover.inputs l.cover.rows l.row-index) (Ok l.sum);
  counted : (u : ℕ) → IsSpanWithin u l.fn.store l.values → IsCounted u (rows_operations (take l.row-index l.cover.rows)) l.fn.store l.store;
}
