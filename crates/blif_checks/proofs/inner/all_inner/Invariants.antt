use Rattle.std.proofs.Common.{◌≡◌, map, take}
use Rattle.blif_checks.specs.Depths.{numbers_in}
use Rattle.blif_checks.proofs.inner.all_inner.Given as goal

abbrev pub invariant-loop-model : goal.invariant-loop-model
invariant-loop-model l = l.all ≡ map (numbers_in l.names) (take l.model-index l.models)
