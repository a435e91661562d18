use Rattle.std.proofs.Common.{◌≢◌, ℕ, ◌<◌}
use Rattle.vrt_model.specs.Lists.{At}
use Rattle.vrt_model.specs.Path.{level_of_drive}
use Rattle.vrt_model.specs.declared.whole.WholePin.{WholePin}
use Rattle.path_fixpoint.proofs.levels.no_output_has.Given as goal

abbrev pub invariant-loop-at : goal.invariant-loop-at
invariant-loop-at l = (k : ℕ) → k < l.at → (pin : WholePin) → At l.outputs k pin → level_of_drive l.fn.source pin.drive ≢ l.fn.level
