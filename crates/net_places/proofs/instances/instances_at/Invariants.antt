use Rattle.std.proofs.Common.{◌≡◌, map, take}
use Rattle.net_places.specs.Instances.{instance_by}
use Rattle.net_places.proofs.instances.instances_at.Given as goal

-- the instances so far
abbrev pub invariant-loop-place : goal.invariant-loop-place
invariant-loop-place l = l.instances ≡ map instance_by (take l.place-index l.places)
