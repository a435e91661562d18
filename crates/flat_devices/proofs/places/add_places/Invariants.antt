use Rattle.std.proofs.Common.{◌≡◌, flat_map, take}
use Rattle.flat_devices.specs.Devices.{said_devices}
use Rattle.flat_devices.proofs.places.add_places.Given as goal

-- the devices so far
abbrev pub invariant-loop-place : goal.invariant-loop-place
invariant-loop-place l = l.found ≡ flat_map (said_devices l.design l.rules l.globals) (take l.place-index l.places)
