use Rattle.std.proofs.Common.{ℕ, ◌*◌, ◌<◌}
use Rattle.bdd_core.specs.Diagram.{IsWithin}
use Rattle.bdd_core.specs.Store.{AddsNodes, function_of}
use Rattle.bdd_ops.specs.Counting.{IsCounted, IsSpanWithin}
use Rattle.circuit_faults.specs.KeptScans.{IsLoose, IsSettledAt, ReadWithin}
use Rattle.vrt_model.specs.Lists.{mark_at}
use Rattle.circuit_faults.proofs.kept.scan_kept.Given as goal

abbrev pub invariant-loop-n : goal.invariant-loop-n
invariant-loop-n l = record {
  adds : AddsNodes l.fn.store l.store;
  settled : (n : ℕ) → n < l.n → IsLoose l.circuit l.fn.wholes.drivers.now n → IsSettledAt (mark_at l.observed) l.fn.care l.fn.spans l.fn.store n;
  counted : (u : ℕ) → IsWithin u (function_of l.fn.store l.fn.care) → IsSpanWithin u l.fn.store l.fn.spans.gates → ReadWithin u l.fn.spans (IsLoose l.circuit l.fn.wholes.drivers.now) l.fn.store
      → IsCounted u (20 * l.n) l.fn.store l.store;
}
