use Rattle.std.proofs.Common.{◌≡◌, map, take}
use Rattle.vrt_model.specs.declared.blif.Tie.{Tie}
use Rattle.blif_flat.specs.Places.{number_in}
use Rattle.blif_flat.proofs.places.actuals_of.Given as goal

abbrev pub invariant-loop-tie : goal.invariant-loop-tie
invariant-loop-tie l = l.numbers ≡ map (λ (t : Tie). number_in l.place t.actual) (take l.tie-index l.ties)
