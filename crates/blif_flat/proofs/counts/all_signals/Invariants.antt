use Rattle.std.proofs.Common.{◌≡◌, map, take}
use Rattle.vrt_model.specs.FlatBlif.{signals_of}
use Rattle.blif_flat.proofs.counts.all_signals.Given as goal

abbrev pub invariant-loop-model : goal.invariant-loop-model
invariant-loop-model l = l.lists ≡ map signals_of (take l.model-index l.models)
