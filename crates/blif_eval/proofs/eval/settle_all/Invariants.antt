use Rattle.std.proofs.Common.{ℕ, take}
use Rattle.std.specs.Prelude.{sum_by}
use Rattle.bdd_core.specs.Words.{Writes}
use Rattle.bdd_ops.specs.Counting.{IsCounted, IsSpanWithin}
use Rattle.blif_eval.specs.Operations.{number_operations}
use Rattle.blif_eval.specs.Settled.{AreSettled}
use Rattle.blif_eval.proofs.eval.settle_all.Given as goal

-- the numbers so far are settled
abbrev pub invariant-loop-number : goal.invariant-loop-number
invariant-loop-number l = record {
  writes : Writes l.fn.out l.fn.store l.store;
  settled : AreSettled l.flat l.drivers l.steps l.inputs l.held l.out l.fn.store l.store l.number-index;
  counted : (u : ℕ) → IsSpanWithin u l.fn.store l.inputs → IsSpanWithin u l.fn.store l.held → IsSpanWithin u l.fn.store l.out
      → IsCounted u (sum_by (number_operations l.flat l.drivers) (take l.number-index l.steps)) l.fn.store l.store × IsSpanWithin u l.store l.out;
}
