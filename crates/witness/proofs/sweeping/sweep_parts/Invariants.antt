use Rattle.std.proofs.Common.{◌≡◌, ℕ, Bool, true, length}
use Rattle.channel_parts.specs.PartLists.{IsPartOf}
use Rattle.channel_parts.specs.declared.part.Part.{Part}
use Rattle.known_nets.specs.KnownTables.{known_at}
use Rattle.plain_paths.specs.Local.{HasPlaces, ShowsRoots}
use Rattle.vrt_model.specs.Lists.{Among}
use Rattle.vrt_model.specs.Reading.{IsReading}
use Rattle.vrt_model.specs.State.{Setting}
use Rattle.vrt_model.specs.declared.rules.Phase.{Phase}
use Rattle.witness.specs.Settling.{IsSwept}
use Rattle.witness.proofs.sweeping.sweep_parts.Given as goal

-- the bits stand, where those at the start do
abbrev pub invariant-loop-part : goal.invariant-loop-part
invariant-loop-part l = record {
  len : length l.bits.items ≡ length l.circuit.nets;
  places : HasPlaces (length l.circuit.nets) l.tables;
  swept :
      (phase : Phase) (setting : Setting) (rank : ℕ → ℕ) (given : ℕ → Bool) → ((part : Part) → Among l.parts part → IsPartOf l.circuit phase true rank part)
      → IsReading l.circuit phase setting.inputs given → ShowsRoots l.circuit given setting.held l.roots
      → IsSwept l.circuit phase setting given (known_at l.initial.bits.items) l.initial.tables → IsSwept l.circuit phase setting given (known_at l.bits.items) l.tables;
}
