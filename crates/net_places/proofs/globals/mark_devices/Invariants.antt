use Rattle.std.proofs.Common.{flat_map, length}
use Rattle.net_places.specs.Globals.{IsMarking, nets_on}
use Rattle.net_places.proofs.globals.mark_devices.Given as goal

abbrev pub decreases-devices : goal.decreases-devices
decreases-devices l = length l.left

abbrev pub invariant-devices : goal.invariant-devices
invariant-devices l = IsMarking (flat_map nets_on l.fn.devices) l.initial.marks.items l.marks.items (flat_map nets_on l.left)
