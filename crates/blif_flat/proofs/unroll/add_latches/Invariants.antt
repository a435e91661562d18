use Rattle.std.proofs.Common.{◌≡◌, ◌++◌, map, take}
use Rattle.blif_flat.specs.Places.{latch_in}
use Rattle.blif_flat.proofs.unroll.add_latches.Given as goal

abbrev pub invariant-loop-latch : goal.invariant-loop-latch
invariant-loop-latch l = l.flat ≡ l.initial.flat ++ map (latch_in l.place) (take l.latch-index l.latches)
