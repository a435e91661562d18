use Rattle.std.proofs.Common.{◌≡◌, ◌≤◌, ◌-◌, length}
use Rattle.whole_circuits.specs.Shown.{device_places, devices_before}
use Rattle.vrt_model.specs.Unrolled.{Top}
use Rattle.whole_circuits.proofs.owners.devices_before.Given as goal

-- the number is between the two
abbrev pub invariant-halves : goal.invariant-halves
invariant-halves l =
    (l.low ≤ l.high) × (l.high ≤ length l.places)
    × ((t : Top) → l.places ≡ device_places t → (l.low ≤ devices_before t l.place) × (devices_before t l.place ≤ l.high))

abbrev pub decreases-halves : goal.decreases-halves
decreases-halves l = l.high - l.low
