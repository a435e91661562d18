use Rattle.std.proofs.Common.{◌≡◌, map, take}
use Rattle.std.specs.Prelude.{filter}
use Rattle.spice_reader.specs.Netlist.{device_of, is_device}
use Rattle.spice_reader.proofs.elements.devices.Given as goal

-- the transistors so far
abbrev pub invariant-loop-card : goal.invariant-loop-card
invariant-loop-card l = l.found ≡ map device_of (filter is_device (take l.card-index l.body))
