use Rattle.std.proofs.Common.{◌≡◌, ℕ, ◌<◌, true}
use Rattle.channel_parts.specs.Labels.{AreBelow, AreOfParts, joins_plain_nets}
use Rattle.channel_parts.specs.Unions.{Respects}
use Rattle.known_nets.specs.KnownTables.{IsKnownTable, known_at}
use Rattle.vrt_model.specs.Lists.{At}
use Rattle.vrt_model.specs.declared.circuit.Device.{Device}
use Rattle.vrt_model.specs.declared.rules.Phase.{Phase}
use Rattle.channel_parts.proofs.least.join_all.Given as goal

abbrev pub invariant-loop-device : goal.invariant-loop-device
invariant-loop-device l = record {
  below : AreBelow l.parents;
  joined : (k : ℕ) → k < l.device-index → (d : Device) → At l.circuit.devices k d → joins_plain_nets l.circuit l.known l.bare d ≡ true → (f : ℕ → ℕ) → Respects l.parents f → f d.left.0 ≡ f d.right.0;
  sound : (phase : Phase) → IsKnownTable l.circuit phase (known_at l.known) → AreOfParts l.circuit phase l.bare l.initial.parents → AreOfParts l.circuit phase l.bare l.parents;
}
