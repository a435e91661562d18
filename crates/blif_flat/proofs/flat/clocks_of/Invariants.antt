use Rattle.std.proofs.Common.{◌≡◌, filter, map, not, take}
use Rattle.vrt_model.specs.Lists.{has_name}
use Rattle.blif_flat.specs.Places.{number_in}
use Rattle.blif_flat.proofs.flat.clocks_of.Given as goal

-- the numbers of those so far that are no inputs
abbrev pub invariant-loop-clock : goal.invariant-loop-clock
invariant-loop-clock l = l.numbers ≡ map (number_in l.place) (filter (λ name. not (has_name l.inputs name)) (take l.clock-index l.clocks))
