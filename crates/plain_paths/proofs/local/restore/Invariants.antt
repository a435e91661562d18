use Rattle.std.proofs.Common.{ℕ, ◌<◌, ◌⊎◌, length}
use Rattle.plain_paths.specs.Local.{AgreeAt, AgreeAtEnds, HasPlaces}
use Rattle.vrt_model.specs.Lists.{At}
use Rattle.vrt_model.specs.declared.circuit.Device.{Device}
use Rattle.vrt_model.specs.declared.ids.Dev.{Dev}
use Rattle.plain_paths.proofs.local.restore.Given as goal

abbrev pub invariant-loop-number : goal.invariant-loop-number
invariant-loop-number l = record {
  places : HasPlaces (length l.circuit.nets) l.tables;
  there : (i : ℕ) → i < l.number-index → (k : Dev) → At l.devices i k → (d : Device) → At l.circuit.devices k.0 d → AgreeAtEnds l.tables l.roots d;
  each : (n : ℕ) → AgreeAt l.tables l.roots n ⊎ AgreeAt l.tables l.initial.tables n;
}
