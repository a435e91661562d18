use Rattle.std.proofs.Common.{ℕ, take}
use Rattle.std.specs.Prelude.{sum_by}
use Rattle.bdd_core.specs.Diagram.{IsWithin, Valuation}
use Rattle.bdd_core.specs.Store.{function_of}
use Rattle.bdd_core.specs.Words.{IsFilled}
use Rattle.bdd_ops.specs.Counting.{IsCounted, IsSpanWithin}
use Rattle.circuit_faults.proofs.CircuitLaws.{IsSolvedBefore}
use Rattle.circuit_faults.specs.Faults.{HasFixedBits}
use Rattle.circuit_faults.specs.Results.{WritesThree, output_span, root_at}
use Rattle.circuit_faults.specs.Steps.{in_phase, phase_of}
use Rattle.circuit_faults.specs.Operations.{step_operations}
use Rattle.path_fixpoint.specs.Spending.{HasOneHold}
use Rattle.circuit_faults.proofs.circuit.wired_fault.Given as goal

-- before a step: the steps before it are solved and have no faults
abbrev pub invariant-loop-place : goal.invariant-loop-place
invariant-loop-place l = record {
  writes : WritesThree (output_span l.fn.phased.circuit.now l.fn.spans.roots) l.fn.spans.gates l.fn.spans.out l.fn.store l.store;
  live : IsFilled l.store l.fn.spans.gates;
  roots : IsFilled l.store l.fn.spans.roots;
  solved :
      ((v : Valuation) → HasFixedBits l.fn.phased.circuit.now (phase_of (in_phase l.fn.phased)) (root_at l.fn.store l.fn.spans.roots v))
      → IsSolvedBefore (in_phase l.fn.phased) l.fn.care l.fn.spans.roots l.fn.spans.gates l.place l.fn.store l.store;
  counted : HasOneHold l.fn.phased.circuit.now → (u : ℕ) → IsWithin u (function_of l.fn.store l.fn.care) → IsSpanWithin u l.fn.store l.fn.spans.roots
      → IsCounted u (sum_by (step_operations (in_phase l.fn.phased)) (take l.place l.fn.phased.steps.now)) l.fn.store l.store × (IsSpanWithin u l.store l.fn.spans.gates × IsSpanWithin u l.store l.fn.spans.roots);
}
