use Rattle.std.proofs.Common.{◌≡◌, map, take}
use Rattle.vrt_model.specs.Lists.{distinct}
use Rattle.vrt_model.specs.declared.blif.BlifModel.{BlifModel}
use Rattle.blif_checks.proofs.roles.all_clocks.Given as goal

-- those so far
abbrev pub invariant-loop-model : goal.invariant-loop-model
invariant-loop-model l = l.clocks ≡ map (λ (m : BlifModel). distinct m.clocks) (take l.model-index l.models)
