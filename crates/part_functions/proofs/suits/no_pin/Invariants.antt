use Rattle.std.proofs.Common.{ℕ, ◌<◌}
use Rattle.part_functions.specs.Small.{AreOutside}
use Rattle.vrt_model.specs.Lists.{At}
use Rattle.vrt_model.specs.declared.whole.Whole.{Whole}
use Rattle.vrt_model.specs.declared.whole.WholePin.{WholePin}
use Rattle.part_functions.proofs.suits.no_pin.Given as goal

abbrev pub invariant-loop-whole : goal.invariant-loop-whole
invariant-loop-whole l = (k : ℕ) → k < l.whole-index → (w : Whole) → At l.circuit.wholes k w → AreOutside l.part (λ (pin : WholePin). pin.net) w.outputs
