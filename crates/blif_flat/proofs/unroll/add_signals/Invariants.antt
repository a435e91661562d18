use Rattle.std.proofs.Common.{◌≡◌, ◌++◌, map, take}
use Rattle.vrt_model.specs.Lists.{path_name}
use Rattle.blif_flat.proofs.unroll.add_signals.Given as goal

abbrev pub invariant-loop-name : goal.invariant-loop-name
invariant-loop-name l = l.signals ≡ l.initial.signals ++ map (path_name l.place.path) (take l.name-index l.name-items)
