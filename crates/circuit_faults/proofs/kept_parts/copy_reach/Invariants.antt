use Rattle.circuit_faults.specs.KeptScans.{IsCopiedTo}
use Rattle.circuit_faults.proofs.kept_parts.copy_reach.Given as goal

abbrev pub invariant-loop-i : goal.invariant-loop-i
invariant-loop-i l = record {
  copied : IsCopiedTo l.part l.fn.value l.fn.out l.fn.to l.i l.fn.store l.store;
}
