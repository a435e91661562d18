use Rattle.std.proofs.Common.{drop, suc}
use Rattle.vrt_model.specs.FlatBlif.{models_in}
use Rattle.blif_flat.specs.Places.{IsUnderway, place_in, with_places}
use Rattle.blif_flat.proofs.unroll.+unroll.Given as goal

abbrev pub decreases-unroll : goal.decreases-unroll
decreases-unroll l = l.depth

-- the sub-models up to this one are unrolled
abbrev pub invariant-loop-number : goal.invariant-loop-number
invariant-loop-number l =
    IsUnderway l.blif (place_in l.place) l.below l.number (drop l.number l.sub-items) l.parts
    (with_places l.blif (models_in l.blif (suc l.below) (place_in l.place)) l.fn.parts)
