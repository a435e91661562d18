use Rattle.std.proofs.Common.{◌≡◌, ◌++◌, length}
use Rattle.whole_circuits.specs.Shown.{devices_left}
use Rattle.whole_circuits.proofs.shown.shown_devices.Given as goal

-- the devices so far with those of the ones that are left
abbrev pub invariant-devices : goal.invariant-devices
invariant-devices l = l.shown ++ devices_left l.marks l.places_left l.devices_left ≡ devices_left l.fn.marks l.fn.places l.fn.devices

abbrev pub decreases-devices : goal.decreases-devices
decreases-devices l = length l.places_left
