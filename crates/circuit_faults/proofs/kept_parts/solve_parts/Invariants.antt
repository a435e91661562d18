use Rattle.std.proofs.Common.{ℕ, take}
use Rattle.std.specs.Prelude.{sum_by}
use Rattle.bdd_ops.specs.Counting.{IsCounted, IsSpanWithin}
use Rattle.circuit_faults.specs.KeptResults.{WritesKept}
use Rattle.circuit_faults.specs.KeptScans.{IsInSolved, IsReachedIn, ReadWithin}
use Rattle.path_fixpoint.specs.Spending.{HasOneHold, solving_operations}
use Rattle.circuit_faults.proofs.kept_parts.solve_parts.Given as goal

abbrev pub invariant-loop-part : goal.invariant-loop-part
invariant-loop-part l = record {
  writes : WritesKept l.fn.spans l.fn.store l.store;
  reached : (n : ℕ) → IsInSolved l.fn.wholes.drivers.now l.parts l.part-index n → IsReachedIn l.circuit l.parts l.fn.spans l.part-index l.fn.store l.store n;
  counted : HasOneHold l.circuit → (u : ℕ) → IsSpanWithin u l.fn.store l.fn.spans.gates → IsSpanWithin u l.fn.store l.fn.spans.roots
      → IsCounted u (sum_by (solving_operations l.circuit) (take l.part-index l.parts)) l.fn.store l.store × ReadWithin u l.fn.spans (IsInSolved l.fn.wholes.drivers.now l.parts l.part-index) l.store;
}
