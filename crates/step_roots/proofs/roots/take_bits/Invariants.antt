use Rattle.std.proofs.Common.{◌≡◌}
use Rattle.bdd_core.specs.Words.{Writes}
use Rattle.step_roots.proofs.HoldRoots.{AreTaken}
use Rattle.step_roots.proofs.roots.take_bits.Given as goal

abbrev pub invariant-loop-hold : goal.invariant-loop-hold
invariant-loop-hold l = record {
  writes : Writes l.fn.roots l.fn.store l.store;
  rest : l.store ≡ record l.fn.store { words = l.store.words };
  taken : AreTaken l.circuit l.circuit.holds l.fn.gates l.fn.roots l.hold-index l.fn.store l.store;
}
