use Rattle.std.proofs.Common.{◌≡◌, ℕ, ◌<◌}
use Rattle.bdd_core.specs.Words.{Writes}
use Rattle.part_functions.specs.Replaced.{IsWritten}
use Rattle.part_functions.proofs.replaced.write_gates.Given as goal

abbrev pub invariant-loop-place : goal.invariant-loop-place
invariant-loop-place l = record {
  writes : Writes l.fn.gates l.fn.store l.store;
  rest : l.store ≡ record l.fn.store { words = l.store.words };
  written : (n : ℕ) → n < l.fn.gates.len → IsWritten l.circuit l.part l.fn.gates l.fn.handles l.place l.fn.store l.store n;
}
