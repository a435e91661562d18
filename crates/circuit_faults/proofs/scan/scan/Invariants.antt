use Rattle.std.proofs.Common.{ℕ, ◌*◌}
use Rattle.bdd_core.specs.Diagram.{IsWithin}
use Rattle.bdd_core.specs.Store.{function_of}
use Rattle.bdd_core.specs.Words.{Writes}
use Rattle.bdd_ops.specs.Counting.{IsCounted, IsSpanWithin}
use Rattle.circuit_faults.specs.Scans.{IsScannedTo}
use Rattle.circuit_faults.specs.Small.{AreFewAt, reach_of, scan_operations}
use Rattle.vrt_model.specs.Lists.{mark_at}
use Rattle.circuit_faults.proofs.scan.scan.Given as goal

abbrev pub invariant-loop-i : goal.invariant-loop-i
invariant-loop-i l = record {
  writes : Writes l.fn.gates l.fn.store l.store;
  scanned : IsScannedTo l.part (mark_at l.observed) l.fn.care l.fn.gates (reach_of l.fn.way l.fn.store l.fn.out) l.i l.fn.store l.store;
  counted : (u : ℕ) → IsWithin u (function_of l.fn.store l.fn.care) → IsSpanWithin u l.fn.store l.fn.gates → IsSpanWithin u l.fn.store l.fn.out.span
      → AreFewAt u l.fn.way l.fn.store → IsCounted u (l.i * scan_operations l.fn.way) l.fn.store l.store × IsSpanWithin u l.store l.fn.gates;
}
