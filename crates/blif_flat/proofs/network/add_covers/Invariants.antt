use Rattle.std.proofs.Common.{◌≡◌, ◌++◌, map, take}
use Rattle.blif_flat.specs.Network.{cover_behind}
use Rattle.blif_flat.specs.Places.{number_in}
use Rattle.blif_flat.proofs.network.add_covers.Given as goal

abbrev pub invariant-loop-cover : goal.invariant-loop-cover
invariant-loop-cover l = l.flat ≡ l.initial.flat ++ map (cover_behind (number_in l.place) l.names l.count) (take l.cover-index l.covers)
