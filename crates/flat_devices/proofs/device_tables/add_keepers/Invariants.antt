use Rattle.std.proofs.Common.{◌≡◌, ℕ, List, take}
use Rattle.std.specs.List.{list_any}
use Rattle.vrt_model.specs.Lists.{has_name}
use Rattle.flat_devices.specs.DeviceTables.{kept_at}
use Rattle.flat_devices.proofs.device_tables.add_keepers.Given as goal

-- the keepers so far
abbrev pub invariant-loop-place : goal.invariant-loop-place
invariant-loop-place l = (device : List ℕ) → has_name l.names device ≡ list_any (kept_at l.rules device) (take l.place-index l.places)
