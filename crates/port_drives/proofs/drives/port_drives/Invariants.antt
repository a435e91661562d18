use Rattle.std.proofs.Common.{◌≡◌, ◌<◌, ℕ, length}
use Rattle.port_drives.specs.Drives.{port_drive, told_in}
use Rattle.vrt_model.specs.Lists.{At}
use Rattle.vrt_model.specs.declared.ids.Net.{Net}
use Rattle.port_drives.proofs.drives.port_drives.Given as goal

-- the drives of the ports so far
abbrev pub invariant-loop-at : goal.invariant-loop-at
invariant-loop-at l = record {
  count : length l.drives ≡ l.at;
  each : (j : ℕ) (n : Net) → j < l.at → At l.ports.nets j n → At l.drives j (port_drive l.circuit (told_in l.facts l.circuit) l.lone l.ports j n.0);
}
