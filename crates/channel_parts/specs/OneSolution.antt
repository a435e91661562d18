-- A circuit has exactly one solution; and what the law of one solution asks of known nets and of whole instances.
use Rattle.std.specs.Prelude.{◌≡◌, ℕ, ◌<◌, Bool, true, Option, Some, length}
use Rattle.vrt_model.specs.Determined.{IsDetermined}
use Rattle.vrt_model.specs.Known.{IsKnown, IsPlain, IsTogether}
use Rattle.vrt_model.specs.Lists.{At, Among}
use Rattle.vrt_model.specs.Reading.{IsReading, devices_of}
use Rattle.vrt_model.specs.Response.{IsResponse, Shows}
use Rattle.vrt_model.specs.Solution.{IsSolution, SameObserved}
use Rattle.vrt_model.specs.State.{IsState, ModelGives, OutputPin, Setting, State, network_of, output_pins}
use Rattle.vrt_model.specs.declared.circuit.Circuit.{Circuit}
use Rattle.vrt_model.specs.declared.circuit.Device.{Device}
use Rattle.vrt_model.specs.declared.rules.Phase.{Phase}
use Rattle.vrt_model.specs.declared.whole.Whole.{Whole}

-- the gates of the devices of the bare circuit are observed, and nets of the circuit alone are
pub record AreObserved (c : Circuit) (observed : ℕ → Bool) : Type 0 where
  pub gates : (d : Device) → Among (devices_of true c) d → observed d.gate.0 ≡ true
  pub nets : (n : ℕ) → observed n ≡ true → n < length c.nets

-- each whole instance is determined
abbrev pub AreDetermined : Circuit → Phase → (ℕ → Bool) → Type 0
AreDetermined c phase observed = (w : Whole) → Among c.wholes w → IsDetermined c phase observed w

-- there is a solution, and each other is the same on the observed nets
pub record HasOneSolution (c : Circuit) (phase : Phase) (observed : ℕ → Bool) (setting : Setting) : Type 0 where
  pub bits : ℕ → Option Bool
  pub solves : IsSolution c phase observed setting bits
  pub only : (a : ℕ → Option Bool) → IsSolution c phase observed setting a → SameObserved observed bits a

-- a reading with the bits of the known nets that are observed
abbrev pub HasKnownBits : Circuit → Phase → (ℕ → Bool) → (ℕ → Bool) → (ℕ → Bool) → Type 0
HasKnownBits c phase inputs observed reading =
    IsReading c phase inputs reading
    × ((n : ℕ) (v : Bool) → observed n ≡ true → IsKnown c phase n v → reading n ≡ v)

-- two readings are the same at the observed nets of lower rank than a net
abbrev pub SameBelow : (ℕ → Bool) → (ℕ → ℕ) → ℕ → (ℕ → Bool) → (ℕ → Bool) → Type 0
SameBelow observed rank n r q = (m : ℕ) → observed m ≡ true → rank m < rank n → r m ≡ q m

-- Known nets stand: each solution gives them their bits where they are observed, and so does each state with the known
-- bits at the observed nets.
pub record KnownStand (c : Circuit) (phase : Phase) (observed : ℕ → Bool) (setting : Setting) : Type 0 where
  pub solved : (a : ℕ → Option Bool) → IsSolution c phase observed setting a → (n : ℕ) (v : Bool) → IsKnown c phase n v → observed n ≡ true → a n ≡ Some v
  pub shown :
      (s : State) → IsState c phase setting.inputs s → HasKnownBits c phase setting.inputs observed s.reading
      → (n : ℕ) (v : Bool) → IsKnown c phase n v → IsPlain c n → IsResponse (network_of c true setting.held s) n (Shows v)

-- What is asked of the roots at output pins of whole instances: a reading gives each exactly one bit, each is at a plain
-- net, and the bit is the same in two readings that are the same below the part of the net.
pub record HasDrives (c : Circuit) (phase : Phase) (inputs observed : ℕ → Bool) (rank : ℕ → ℕ) (driven : (ℕ → Bool) → ℕ → Bool) : Type 0 where
  pub gives : (r : ℕ → Bool) → IsReading c phase inputs r → (at : ℕ) (out : OutputPin) → At (output_pins c) at out → ModelGives phase out r (driven r at)
  pub one : (s : State) → IsState c phase inputs s → (at : ℕ) (out : OutputPin) → At (output_pins c) at out → s.driven at ≡ driven s.reading at
  pub plain : (at : ℕ) (out : OutputPin) → At (output_pins c) at out → IsPlain c out.pin.net.0
  pub below :
      (n : ℕ) (r q : ℕ → Bool) → HasKnownBits c phase inputs observed r → HasKnownBits c phase inputs observed q → SameBelow observed rank n r q
      → (at : ℕ) (out : OutputPin) → At (output_pins c) at out → IsTogether c phase true n out.pin.net.0 → driven r at ≡ driven q at
