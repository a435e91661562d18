use Rattle.std.proofs.Common.{◌≡◌, ◌++◌, flat_map, take}
use Rattle.net_places.specs.OwnNets.{own_by}
use Rattle.net_places.proofs.nets.add_places.Given as goal

-- the nets so far
abbrev pub invariant-loop-place : goal.invariant-loop-place
invariant-loop-place l = l.nets ≡ l.fn.nets ++ flat_map (own_by l.tables) (take l.place-index l.places)
