use Rattle.std.proofs.Common.{◌≢◌, ℕ, ◌<◌}
use Rattle.vrt_model.specs.Lists.{At}
use Rattle.vrt_model.specs.declared.circuit.Hold.{Hold}
use Rattle.path_fixpoint.proofs.levels.no_hold_has.Given as goal

abbrev pub invariant-loop-hold : goal.invariant-loop-hold
invariant-loop-hold l = (k : ℕ) → k < l.hold-index → (hold : Hold) → At l.circuit.holds k hold → hold.size ≢ l.fn.level
