use Rattle.std.proofs.Common.{◌≡◌, ◌++◌, map, take}
use Rattle.std.specs.List.{enumerate_from}
use Rattle.port_drives.specs.Outputs.{told_pin}
use Rattle.port_drives.proofs.outputs.add_outputs.Given as goal

-- the outputs so far are added
abbrev pub invariant-loop-place : goal.invariant-loop-place
invariant-loop-place l = record {
  is : l.told ≡ l.fn.told ++ map (told_pin l.facts l.whole.cell) (take l.place (enumerate_from 0 l.whole.outputs));
}
