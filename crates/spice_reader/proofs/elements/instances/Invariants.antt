use Rattle.std.proofs.Common.{◌≡◌, map, take}
use Rattle.std.specs.Prelude.{filter}
use Rattle.spice_reader.specs.Netlist.{instance_of, is_instance}
use Rattle.spice_reader.proofs.elements.instances.Given as goal

-- the instances so far
abbrev pub invariant-loop-card : goal.invariant-loop-card
invariant-loop-card l = l.found ≡ map instance_of (filter is_instance (take l.card-index l.body))
