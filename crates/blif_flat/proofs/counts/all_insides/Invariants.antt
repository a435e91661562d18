use Rattle.std.proofs.Common.{◌≡◌, map, take}
use Rattle.blif_flat.specs.Counts.{inside_in}
use Rattle.blif_flat.proofs.counts.all_insides.Given as goal

abbrev pub invariant-loop-model : goal.invariant-loop-model
invariant-loop-model l = l.all ≡ map (inside_in l.names l.signals l.rows) (take l.model-index l.models)
