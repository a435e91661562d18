-- Inputs that nothing in a circuit looks at.
use Rattle.std.specs.Prelude.{◌≡◌, ℕ, ◌⊎◌, Bool, true, false, [], Option}
use Rattle.vrt_model.specs.Lists.{Among, At}
use Rattle.vrt_model.specs.Networks.{HasRanges}
use Rattle.vrt_model.specs.Path.{Joins}
use Rattle.vrt_model.specs.Reading.{bare, devices_of}
use Rattle.vrt_model.specs.Solution.{IsSolution}
use Rattle.vrt_model.specs.State.{Setting}
use Rattle.vrt_model.specs.declared.circuit.Circuit.{Circuit}
use Rattle.vrt_model.specs.declared.circuit.Device.{Device}
use Rattle.vrt_model.specs.declared.circuit.FlatNet.{FlatNet}
use Rattle.vrt_model.specs.declared.circuit.NetKind.TheVariants.{Input}
use Rattle.vrt_model.specs.declared.rules.Phase.{Phase}

-- a net that is not observed, and that no channel meets
pub record IsIdle (c : Circuit) (observed : ℕ → Bool) (n : ℕ) : Type 0 where
  pub unobserved : observed n ≡ false
  pub free : (m : ℕ) (d : Device) → Among (devices_of bare c) d → ¬ Joins d n m

-- two settings have the same bits at the inputs that are not idle
abbrev pub SameButIdle : Circuit → (ℕ → Bool) → Setting → Setting → Type 0
SameButIdle c observed one two = (n : ℕ) (net : FlatNet) → At c.nets n net → net.kind ≡ Input → (one.inputs n ≡ two.inputs n) ⊎ IsIdle c observed n

-- The law: the solutions of a circuit without holds and whole instances, whose gates are observed, are the same at two such settings.
abbrev pub IdleInputsChangeNothing : Type 0
IdleInputsChangeNothing =
    (c : Circuit) (phase : Phase) (observed : ℕ → Bool) (one two : Setting) (a : ℕ → Option Bool)
    → HasRanges c → c.wholes ≡ [] → c.holds ≡ [] → ((d : Device) → Among (devices_of bare c) d → observed d.gate.0 ≡ true)
    → SameButIdle c observed one two
    → IsSolution c phase observed one a → IsSolution c phase observed two a
