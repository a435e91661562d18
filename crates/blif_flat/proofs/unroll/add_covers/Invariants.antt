use Rattle.std.proofs.Common.{◌≡◌, ◌++◌, map, take}
use Rattle.blif_flat.specs.Places.{cover_in}
use Rattle.blif_flat.proofs.unroll.add_covers.Given as goal

abbrev pub invariant-loop-cover : goal.invariant-loop-cover
invariant-loop-cover l = l.flat ≡ l.initial.flat ++ map (cover_in l.place) (take l.cover-index l.covers)
