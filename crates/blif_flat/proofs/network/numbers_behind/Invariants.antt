use Rattle.std.proofs.Common.{◌≡◌, map, take}
use Rattle.blif_flat.specs.Network.{number_behind}
use Rattle.blif_flat.specs.Places.{number_in}
use Rattle.blif_flat.proofs.network.numbers_behind.Given as goal

abbrev pub invariant-loop-name : goal.invariant-loop-name
invariant-loop-name l = l.numbers ≡ map (number_behind (number_in l.place) l.names l.count) (take l.name-index l.list)
