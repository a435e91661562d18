use Rattle.std.proofs.Common.{◌≡◌, drop, map}
use Rattle.names.specs.Names.{with_names}
use Rattle.vrt_model.specs.declared.design.DeviceCard.{DeviceCard}
use Rattle.hierarchy.proofs.sets.add_devices.Given as goal

-- the names so far, with those of the rest
abbrev pub invariant-loop-device : goal.invariant-loop-device
invariant-loop-device l = with_names l.names (map (λ (x : DeviceCard). x.name) (drop l.device-index l.devices)) ≡ with_names l.initial.names (map (λ (x : DeviceCard). x.name) l.devices)
