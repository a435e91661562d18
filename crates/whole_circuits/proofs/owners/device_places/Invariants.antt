use Rattle.std.proofs.Common.{◌≡◌, ◌++◌, length}
use Rattle.std.specs.List.{enumerate_from, flat_map}
use Rattle.whole_circuits.specs.Shown.{places_of}
use Rattle.whole_circuits.proofs.owners.device_places.Given as goal

-- the numbers so far with those of the places that are left
abbrev pub invariant-places : goal.invariant-places
invariant-places l =
    l.owners.items ++ flat_map (places_of l.design) (enumerate_from l.at l.rest) ≡ flat_map (places_of l.design) (enumerate_from 0 l.fn.unrolled.places)

abbrev pub decreases-places : goal.decreases-places
decreases-places l = length l.rest
