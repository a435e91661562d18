-- The names of the things in each cell.
use Rattle.std.specs.Prelude.{ℕ, List, [], ◌∷◌, ◌++◌, map}
use Rattle.vrt_model.specs.Unrolled.{mentions}
use Rattle.vrt_model.specs.declared.design.Cell.{Cell}
use Rattle.vrt_model.specs.declared.design.DeviceCard.{DeviceCard}
use Rattle.vrt_model.specs.declared.design.InstanceCard.{InstanceCard}
use Rattle.hierarchy.specs.declared.sets.Kind.{Kind}
use Rattle.hierarchy.specs.declared.sets.Kind.TheVariants.{Ports, Devices, Instances, Nets}

-- the nets of a device, but for the bulk
abbrev pub device_nets : DeviceCard → List (List ℕ)
device_nets d = d.drain ∷ d.gate ∷ d.source ∷ []

-- the names of one kind in a cell
abbrev pub names_in : Kind → Cell → List (List ℕ)
names_in Ports c = c.ports
names_in Devices c = map (λ (d : DeviceCard). d.name) c.devices
names_in Instances c = map (λ (i : InstanceCard). i.name) c.instances
names_in Nets c = c.ports ++ mentions c
