use Rattle.std.proofs.Common.{ℕ}
use Rattle.bdd_core.specs.Words.{IsFilled, WritesTwo}
use Rattle.bdd_ops.specs.Counting.{IsSpanWithin}
use Rattle.circuit_faults.proofs.OutputWords.{AreWrittenDown, left_of}
use Rattle.circuit_faults.specs.Results.{output_span}
use Rattle.circuit_faults.specs.Steps.{in_phase, phase_of}
use Rattle.whole_steps.specs.Evaluations.{HasEvaluated}
use Rattle.circuit_faults.proofs.outputs.write_net.Given as goal

-- the outputs from a number on have their bits
abbrev pub invariant-outputs : goal.invariant-outputs
invariant-outputs l = record {
  writes : WritesTwo (output_span l.fn.phased.circuit.now l.fn.spans.roots) l.fn.spans.out l.fn.store l.store;
  live : IsFilled l.store l.fn.spans.gates;
  roots : IsFilled l.store l.fn.spans.roots;
  down : AreWrittenDown (in_phase l.fn.phased) l.fn.spans.roots l.fn.spans.gates l.fn.net.0 l.fn.store l.store l.last l.next;
  evaluated : HasEvaluated l.fn.phased.circuit.now (phase_of (in_phase l.fn.phased)) l.last l.fn.spans.gates l.fn.spans.out l.store;
  within : (u : ℕ) → IsSpanWithin u l.fn.store l.fn.spans.gates → IsSpanWithin u l.fn.store l.fn.spans.roots → IsSpanWithin u l.store l.fn.spans.gates × IsSpanWithin u l.store l.fn.spans.roots;
}

abbrev pub decreases-outputs : goal.decreases-outputs
decreases-outputs l = left_of l.next
