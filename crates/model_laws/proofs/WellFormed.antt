-- What laws ask of a circuit holds where it is well formed.
use Rattle.std.proofs.Common.{ℕ, ◌<◌, true}
use Rattle.vrt_model.proofs.Members.{all_among, among_filter}
use Rattle.vrt_model.specs.Levels.{least_level, source_level}
use Rattle.vrt_model.specs.Networks.{HasRanges}
use Rattle.vrt_model.specs.Circuits.{IsCircuit, IsDevice, IsHold}
use Rattle.vrt_model.specs.Lists.{At, Among}
use Rattle.vrt_model.specs.Reading.{devices_of, is_in}
use Rattle.vrt_model.specs.declared.circuit.Circuit.{Circuit}
use Rattle.vrt_model.specs.declared.circuit.Device.{Device}
use Rattle.vrt_model.specs.declared.circuit.Hold.{Hold}

pub circuit_ranges : (c : Circuit) → IsCircuit c → HasRanges c
circuit_ranges c good = record { devices = good.devices; holds = good.holds; wholes = good.wholes }

pub weak_devices : (c : Circuit) → IsCircuit c → (d : Device) → Among (devices_of true c) d → d.level < source_level c
weak_devices c good d m = (all_among (IsDevice c) c.devices d good.devices (among_filter (is_in true) c.devices d m)).level.1

pub small_holds : (c : Circuit) → IsCircuit c → (at : ℕ) (h : Hold) → At c.holds at h → h.size < least_level c
small_holds c good at h e = (all_among (IsHold c) c.holds h good.holds (at, e)).size.1
