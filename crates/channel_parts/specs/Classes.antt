-- The classes of channel-connected parts. The parts here are those of all devices, keepers among them, whatever is known
-- of their gates.
use Rattle.std.specs.Prelude.{◌≡◌, ℕ, ◌≤◌, ◌⊎◌, Bool, true, false, List, map}
use Rattle.channel_parts.specs.PartLists.{IsRising}
use Rattle.channel_parts.specs.declared.class.Class.{Class}
use Rattle.channel_parts.specs.declared.class.Class.TheVariants.{Static, Pass, Domino}
use Rattle.channel_parts.specs.declared.class.ClassLine.{ClassLine}
use Rattle.vrt_model.specs.Known.{IsHeld, IsKnown, IsPlain}
use Rattle.vrt_model.specs.Lists.{At, Among}
use Rattle.vrt_model.specs.Path.{Joins}
use Rattle.vrt_model.specs.declared.circuit.Circuit.{Circuit}
use Rattle.vrt_model.specs.declared.circuit.Device.{Device}
use Rattle.vrt_model.specs.declared.circuit.FlatNet.{FlatNet}
use Rattle.vrt_model.specs.declared.circuit.NetKind.TheVariants.{Supply, Input}
use Rattle.vrt_model.specs.declared.design.Kind.{Kind}
use Rattle.vrt_model.specs.declared.design.Kind.TheVariants.{N, P}
use Rattle.vrt_model.specs.declared.rules.Phase.{Phase}

-- ---- parts

-- the part of a plain net: the plain nets that the channels of devices join to it
pub data IsLinked (c : Circuit) (n : ℕ) : ℕ → Type 0 where
  itself : IsPlain c n → IsLinked c n n
  onward : {l m : ℕ} (d : Device) → IsLinked c n l → Among c.devices d → Joins d l m → IsPlain c m → IsLinked c n m

-- a device of the part of a net: its channel meets a net of the part
abbrev pub IsLinkedDevice : Circuit → ℕ → Device → Type 0
IsLinkedDevice c n d = (m : ℕ) × (l : ℕ) × IsLinked c n m × Joins d m l

-- the least net of its part
pub record IsLeastLinked (c : Circuit) (n : ℕ) : Type 0 where
  pub plain : IsPlain c n
  pub lowest : (m : ℕ) → IsLinked c n m → n ≤ m

-- ---- what a class asks

-- the net is an input
abbrev pub IsInput : Circuit → ℕ → Type 0
IsInput c n = (net : FlatNet) × At c.nets n net × (net.kind ≡ Input)

-- the net is a supply of this value
abbrev pub IsSupply : Circuit → ℕ → Bool → Type 0
IsSupply c n value = (net : FlatNet) × At c.nets n net × (net.kind ≡ Supply value)

-- an n-device pulls to supply 0, a p-device to supply 1
abbrev pub pulled_to : Kind → Bool
pulled_to N = false
pulled_to P = true

-- the net is known in every phase of the bare circuit, 0 in one and 1 in another
pub record IsSwitched (c : Circuit) (phases : List Phase) (n : ℕ) : Type 0 where
  pub known : (phase : Phase) → Among phases phase → (v : Bool) × IsKnown c phase n v
  pub low : (phase : Phase) × Among phases phase × IsKnown c phase n false
  pub high : (phase : Phase) × Among phases phase × IsKnown c phase n true

-- a p-device to supply 1, or an n-device to supply 0, from a hold net of the part, and the clocks switch its gate
pub record IsStage (c : Circuit) (phases : List Phase) (n : ℕ) (d : Device) : Type 0 where
  pub net : ℕ
  pub linked : IsLinked c n net
  pub held : IsHeld c net
  pub supply : ℕ
  pub joins : Joins d net supply
  pub pulls : IsSupply c supply (pulled_to d.kind)
  pub switched : IsSwitched c phases d.gate.0

-- a device of the part joins an input to it
pub record PassesInput (c : Circuit) (n : ℕ) (d : Device) : Type 0 where
  pub net : ℕ
  pub linked : IsLinked c n net
  pub input : ℕ
  pub joins : Joins d net input
  pub given : IsInput c input

-- some device is such a one, or some net of the part has a hold
abbrev pub IsDomino : Circuit → List Phase → ℕ → Type 0
IsDomino c phases n = (d : Device) × Among c.devices d × IsStage c phases n d

abbrev pub IsPass : Circuit → ℕ → Type 0
IsPass c n = ((d : Device) × Among c.devices d × PassesInput c n d) ⊎ ((m : ℕ) × IsLinked c n m × IsHeld c m)

-- ---- classes

-- the part of a net is of a class
abbrev pub HasClass : Circuit → List Phase → ℕ → Class → Type 0
HasClass c phases n Domino = IsDomino c phases n
HasClass c phases n Pass = (¬ IsDomino c phases n) × IsPass c n
HasClass c phases n Static = (¬ IsDomino c phases n) × (¬ IsPass c n)

-- a line for each part, with its least net and its class, by least net
pub record AreClasses (c : Circuit) (phases : List Phase) (lines : List ClassLine) : Type 0 where
  pub each : (line : ClassLine) → Among lines line → IsLeastLinked c line.net.0 × HasClass c phases line.net.0 line.class
  pub all : (n : ℕ) → IsPlain c n → (line : ClassLine) × Among lines line × IsLinked c line.net.0 n
  pub sorted : IsRising (map (λ (line : ClassLine). line.net.0) lines)
