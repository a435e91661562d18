use Rattle.std.proofs.Common.{◌+◌, ◌++◌, drop, length, suc}
use Rattle.net_places.specs.Places.{IsUnderway, own_below, places_below}
use Rattle.net_places.proofs.unrolled.+unroll_from.Given as goal

abbrev pub decreases-unroll_from : goal.decreases-unroll_from
decreases-unroll_from l = l.depth

-- the instances up to this one are unrolled
abbrev pub invariant-loop-card : goal.invariant-loop-card
invariant-loop-card l =
    IsUnderway l.design l.tables l.globals l.below l.number l.place l.card (drop l.card l.instance-items) l.next l.places
    (l.fn.places ++ places_below l.design l.tables l.globals (suc l.below) (length l.fn.places) l.place) (l.place.base + own_below l.tables (suc l.below) l.place.cell)
