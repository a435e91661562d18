use Rattle.std.proofs.Common.{◌≡◌, ℕ, ◌≤◌, Bool, slice_index}
use Rattle.channel_parts.specs.Labels.{AreBelow, AreOfParts}
use Rattle.channel_parts.specs.Unions.{Respects}
use Rattle.vrt_model.specs.Known.{IsPlain, IsTogether}
use Rattle.vrt_model.specs.declared.circuit.Circuit.{Circuit}
use Rattle.vrt_model.specs.declared.rules.Phase.{Phase}
use Rattle.channel_parts.proofs.unions.least_of.Given as goal

-- the numbers passed so far are of one set
abbrev pub invariant-up : goal.invariant-up
invariant-up l = record {
  within : l.at ≤ l.number;
  below : AreBelow l.parents;
  stay : (n : ℕ) → slice_index l.initial.parents n ≡ n → slice_index l.parents n ≡ n;
  same : (f : ℕ → ℕ) → Respects l.parents f → Respects l.initial.parents f × (f l.at ≡ f l.number);
  sound : (c : Circuit) (phase : Phase) (bare : Bool) → AreOfParts c phase bare l.initial.parents → AreOfParts c phase bare l.parents × (IsPlain c l.number → IsTogether c phase bare l.number l.at);
}

abbrev pub decreases-up : goal.decreases-up
decreases-up l = l.at
