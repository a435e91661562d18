use Rattle.std.proofs.Common.{◌≡◌, take}
use Rattle.std.specs.Prelude.{flat_map}
use Rattle.port_drives.specs.Outputs.{told_of}
use Rattle.port_drives.proofs.outputs.told_outputs.Given as goal

-- the outputs of the instances so far
abbrev pub invariant-loop-whole : goal.invariant-loop-whole
invariant-loop-whole l = record {
  is : l.told ≡ flat_map (told_of l.facts) (take l.whole-index l.circuit.wholes);
}
