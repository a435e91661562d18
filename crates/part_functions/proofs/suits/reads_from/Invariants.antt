use Rattle.std.proofs.Common.{ℕ, ◌<◌, length}
use Rattle.bdd_core.specs.Diagram.{IsWithin, meaning}
use Rattle.part_functions.proofs.suits.reads_from.Given as goal

abbrev pub invariant-loop-step : goal.invariant-loop-step
invariant-loop-step l = record {
  live : l.here.0 < length l.store.nodes;
  within : (u : ℕ) → IsWithin u (meaning l.store.nodes l.fn.function.0) → IsWithin u (meaning l.store.nodes l.here.0);
}
