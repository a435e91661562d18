use Rattle.std.proofs.Common.{ℕ, take}
use Rattle.std.specs.Prelude.{sum_by}
use Rattle.bdd_core.specs.Words.{IsFilled, WritesTwo}
use Rattle.bdd_ops.specs.Counting.{IsCounted, IsSpanWithin}
use Rattle.circuit_faults.proofs.OutputWords.{IsAmongFirst}
use Rattle.circuit_faults.specs.Results.{output_span}
use Rattle.circuit_faults.specs.Steps.{in_phase}
use Rattle.circuit_faults.specs.Wholes.{OutputsGive}
use Rattle.circuit_faults.specs.Operations.{net_operations}
use Rattle.vrt_model.specs.declared.ids.Net.{Net}
use Rattle.circuit_faults.proofs.outputs.write_outputs.Given as goal

-- the outputs at the first nets have their bits
abbrev pub invariant-loop-i : goal.invariant-loop-i
invariant-loop-i l = record {
  writes : WritesTwo (output_span l.fn.phased.circuit.now l.fn.spans.roots) l.fn.spans.out l.fn.store l.store;
  live : IsFilled l.store l.fn.spans.gates;
  roots : IsFilled l.store l.fn.spans.roots;
  gives : OutputsGive (in_phase l.fn.phased) (λ at o. IsAmongFirst l.part l.i o.pin.net.0) l.fn.spans.roots l.fn.spans.gates l.fn.store l.store;
  counted : (u : ℕ) → IsSpanWithin u l.fn.store l.fn.spans.gates → IsSpanWithin u l.fn.store l.fn.spans.roots
      → IsCounted u (sum_by (λ (net : Net). net_operations l.fn.phased.circuit.now net.0) (take l.i l.part.nets)) l.fn.store l.store
      × (IsSpanWithin u l.store l.fn.spans.gates × IsSpanWithin u l.store l.fn.spans.roots);
}
