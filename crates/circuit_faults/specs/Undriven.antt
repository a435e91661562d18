-- Parts of one net that nothing drives, as the nets inside whole instances are.
use Rattle.std.specs.Prelude.{◌≡◌, ℕ, [], ◌∷◌, Option, None, Some}
use Rattle.channel_parts.specs.declared.part.Part.{Part}
use Rattle.vrt_model.specs.Known.{IsDriven, IsHeld, IsPlain}
use Rattle.vrt_model.specs.declared.circuit.Circuit.{Circuit}
use Rattle.vrt_model.specs.declared.ids.Net.{Net}

-- a plain net at which no hold and no output of a whole instance is
pub record IsRootless (c : Circuit) (n : ℕ) : Type 0 where
  pub plain : IsPlain c n
  pub held : ¬ IsHeld c n
  pub driven : ¬ IsDriven c n

-- such a net alone, without devices
pub record IsUndriven (c : Circuit) (part : Part) (net : Net) : Type 0 where
  pub alone : part.nets ≡ net ∷ []
  pub devices : part.devices ≡ []
  pub rootless : IsRootless c net.0

-- the net of the part, where it is such a part, and else none
abbrev pub UndrivenGives : Circuit → Part → Option Net → Type 0
UndrivenGives c part (Some net) = IsUndriven c part net
UndrivenGives c part None = (net : Net) → ¬ IsUndriven c part net
