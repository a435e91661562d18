use Rattle.std.proofs.Common.{◌≡◌, take}
use Rattle.std.specs.Prelude.{filter_map}
use Rattle.blif_flat.specs.Network.{dontcare_behind}
use Rattle.blif_flat.specs.Places.{number_in}
use Rattle.blif_flat.proofs.network.dontcares_of.Given as goal

-- the bits of the outputs so far
abbrev pub invariant-loop-output : goal.invariant-loop-output
invariant-loop-output l = l.list ≡ filter_map (dontcare_behind (number_in l.place) l.names l.count) (take l.output-index l.outputs)
