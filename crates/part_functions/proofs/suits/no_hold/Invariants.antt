use Rattle.std.proofs.Common.{ℕ, ◌<◌}
use Rattle.part_functions.specs.Small.{IsInside}
use Rattle.vrt_model.specs.Lists.{At}
use Rattle.vrt_model.specs.declared.circuit.Hold.{Hold}
use Rattle.part_functions.proofs.suits.no_hold.Given as goal

abbrev pub invariant-loop-hold : goal.invariant-loop-hold
invariant-loop-hold l = (k : ℕ) → k < l.hold-index → (hold : Hold) → At l.circuit.holds k hold → ¬ IsInside l.part hold.net.0
