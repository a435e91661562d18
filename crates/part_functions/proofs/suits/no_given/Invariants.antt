use Rattle.std.proofs.Common.{ℕ, ◌<◌}
use Rattle.path_fixpoint.specs.Parts.{IsGiven}
use Rattle.vrt_model.specs.Lists.{At}
use Rattle.vrt_model.specs.declared.ids.Net.{Net}
use Rattle.part_functions.proofs.suits.no_given.Given as goal

abbrev pub invariant-loop-at : goal.invariant-loop-at
invariant-loop-at l = (k : ℕ) → k < l.at → (net : Net) → At l.part.nets k net → ¬ IsGiven l.circuit net.0
