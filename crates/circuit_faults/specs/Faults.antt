-- The faults of the bare circuit: nets that both values reach, and observed nets that neither reaches.
use Rattle.std.specs.Prelude.{◌≡◌, ℕ, Bool, true, Option}
use Rattle.bdd_core.specs.Diagram.{Valuation}
use Rattle.vrt_model.specs.Known.{IsFixed, IsPlain}
use Rattle.vrt_model.specs.Lists.{At}
use Rattle.vrt_model.specs.Path.{Network}
use Rattle.vrt_model.specs.Reading.{Partial}
use Rattle.vrt_model.specs.Response.{Fight as Fights, Float as Floats, IsResponse}
use Rattle.vrt_model.specs.Solution.{AlwaysResponds, IsSolution}
use Rattle.vrt_model.specs.State.{Setting}
use Rattle.vrt_model.specs.declared.circuit.Circuit.{Circuit}
use Rattle.vrt_model.specs.declared.circuit.FlatNet.{FlatNet}
use Rattle.vrt_model.specs.declared.circuit.Hold.{Hold}
use Rattle.vrt_model.specs.declared.circuit.NetKind.TheVariants.{Input}
use Rattle.vrt_model.specs.declared.rules.Phase.{Phase}
use Rattle.vrt_model.specs.declared.verdict.FaultKind.{FaultKind}
use Rattle.vrt_model.specs.declared.verdict.FaultKind.TheVariants.{Fight, FightKept, Float, Unsettled, Constraint, Differs, Next, Apart, Enter}

-- the inputs, and the holds at plain nets, have the bits of the roots at their nets
pub record IsSettingAt (c : Circuit) (root : ℕ → Bool) (setting : Setting) : Type 0 where
  pub inputs : (n : ℕ) (net : FlatNet) → At c.nets n net → net.kind ≡ Input → setting.inputs n ≡ root n
  pub held : (at : ℕ) (hold : Hold) → At c.holds at hold → IsPlain c hold.net.0 → setting.held at ≡ root hold.net.0

-- the roots at supplies and at clock ports have their bits
abbrev pub HasFixedBits : Circuit → Phase → (ℕ → Bool) → Type 0
HasFixedBits c phase root = (n : ℕ) (v : Bool) → IsFixed c phase n v → root n ≡ v

-- a is a solution where the inputs and the holds at plain nets have the bits of the roots
pub record IsSolvedAt (c : Circuit) (phase : Phase) (observed : ℕ → Bool) (root : ℕ → Bool) (setting : Setting) (a : ℕ → Option Bool) : Type 0 where
  pub given : IsSettingAt c root setting
  pub solves : IsSolution c phase observed setting a

-- a fault of this kind stands at the net, where a is a solution: a fight at a plain net, a float at an observed one
abbrev pub HasFault : Circuit → Phase → (ℕ → Bool) → Setting → (ℕ → Option Bool) → FaultKind → ℕ → Type 0
HasFault c phase observed setting a Fight n = IsPlain c n × AlwaysResponds c phase observed setting a true n Fights
HasFault c phase observed setting a Float n = (observed n ≡ true) × AlwaysResponds c phase observed setting a true n Floats
HasFault c phase observed setting a FightKept n = ⊥
HasFault c phase observed setting a Unsettled n = ⊥
HasFault c phase observed setting a Constraint n = ⊥
HasFault c phase observed setting a Differs n = ⊥
HasFault c phase observed setting a Next n = ⊥
HasFault c phase observed setting a Apart n = ⊥
HasFault c phase observed setting a Enter n = ⊥

-- the same of one network
abbrev pub ShowsFault : (ℕ → Bool) → Network → FaultKind → ℕ → Type 0
ShowsFault observed w Fight n = IsResponse w n Fights
ShowsFault observed w Float n = (observed n ≡ true) × IsResponse w n Floats
ShowsFault observed w FightKept n = ⊥
ShowsFault observed w Unsettled n = ⊥
ShowsFault observed w Constraint n = ⊥
ShowsFault observed w Differs n = ⊥
ShowsFault observed w Next n = ⊥
ShowsFault observed w Apart n = ⊥
ShowsFault observed w Enter n = ⊥

-- ---- cases

-- a valuation, with a setting and a solution of the circuit there
pub record SolvedCase (c : Circuit) (phase : Phase) (observed : ℕ → Bool) (root : Valuation → ℕ → Bool) : Type 0 where
  pub valuation : Valuation
  pub setting : Setting
  pub solution : Partial
  pub solved : IsSolvedAt c phase observed (root valuation) setting solution
