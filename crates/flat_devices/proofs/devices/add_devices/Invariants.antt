use Rattle.std.proofs.Common.{◌≡◌, ◌++◌, flat_map, length}
use Rattle.flat_devices.specs.Devices.{device_by, pairwise}
use Rattle.net_places.specs.Globals.{nets_on}
use Rattle.net_places.specs.Places.{HasRoomFor}
use Rattle.flat_devices.proofs.devices.add_devices.Given as goal

-- the devices so far, and those of the cards that are left
abbrev pub invariant-cards : goal.invariant-cards
invariant-cards l =
    (l.found ++ pairwise (device_by l.models l.table l.globals l.place) l.cards_left l.nets_left ≡ l.fn.found ++ pairwise (device_by l.models l.table l.globals l.place) l.fn.cards l.fn.nets)
    × HasRoomFor l.place.base (flat_map nets_on l.nets_left)

abbrev pub decreases-cards : goal.decreases-cards
decreases-cards l = length l.cards_left
