use Rattle.std.proofs.Common.{ℕ, ◌<◌}
use Rattle.part_functions.specs.Small.{IsInside}
use Rattle.vrt_model.specs.Lists.{At}
use Rattle.vrt_model.specs.declared.whole.WholePin.{WholePin}
use Rattle.part_functions.proofs.suits.no_output.Given as goal

abbrev pub invariant-loop-at : goal.invariant-loop-at
invariant-loop-at l = (k : ℕ) → k < l.at → (pin : WholePin) → At l.outputs k pin → ¬ IsInside l.part pin.net.0
