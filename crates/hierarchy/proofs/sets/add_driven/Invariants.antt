use Rattle.std.proofs.Common.{◌≡◌, drop, flat_map}
use Rattle.names.specs.Names.{with_names}
use Rattle.hierarchy.specs.Sets.{device_nets}
use Rattle.hierarchy.proofs.sets.add_driven.Given as goal

-- the nets so far, with those of the rest
abbrev pub invariant-loop-device : goal.invariant-loop-device
invariant-loop-device l = with_names l.names (flat_map device_nets (drop l.device-index l.devices)) ≡ with_names l.initial.names (flat_map device_nets l.devices)
