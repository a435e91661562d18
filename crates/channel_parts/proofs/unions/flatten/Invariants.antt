use Rattle.std.proofs.Common.{◌≡◌, ℕ, ◌<◌, Bool, slice_index}
use Rattle.channel_parts.proofs.UnionLaws.{above}
use Rattle.channel_parts.specs.Labels.{AreBelow, AreOfParts}
use Rattle.channel_parts.specs.Unions.{Respects}
use Rattle.vrt_model.specs.declared.circuit.Circuit.{Circuit}
use Rattle.vrt_model.specs.declared.rules.Phase.{Phase}
use Rattle.channel_parts.proofs.unions.flatten.Given as goal

abbrev pub invariant-loop-number : goal.invariant-loop-number
invariant-loop-number l = record {
  below : AreBelow l.parents;
  own : (n : ℕ) → n < l.number → above l.parents n ≡ slice_index l.parents n;
  same : (f : ℕ → ℕ) → Respects l.parents f → Respects l.initial.parents f;
  sound : (c : Circuit) (phase : Phase) (bare : Bool) → AreOfParts c phase bare l.initial.parents → AreOfParts c phase bare l.parents;
}
