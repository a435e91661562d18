use Rattle.std.proofs.Common.{◌≡◌, map, take}
use Rattle.net_places.specs.Places.{net_of}
use Rattle.net_places.proofs.places.flat_nets.Given as goal

-- the flat nets so far
abbrev pub invariant-loop-net : goal.invariant-loop-net
invariant-loop-net l = l.flat ≡ map (net_of l.place l.globals) (take l.net-index l.nets)
