-- Known nets of a circuit that may have whole instances: their bits stand, and no arc leads to one.
use Rattle.std.specs.Prelude.{◌≡◌, ℕ, Bool, true, Option, Some}
use Rattle.known_nets.specs.Wired.{AreOutputsPlain}
use Rattle.vrt_model.specs.Known.{HasArc, IsKnown, IsUnknown}
use Rattle.vrt_model.specs.Lists.{Among}
use Rattle.vrt_model.specs.Networks.{HasRanges}
use Rattle.vrt_model.specs.Reading.{bare, devices_of}
use Rattle.vrt_model.specs.Response.{IsResponse, Shows}
use Rattle.vrt_model.specs.Solution.{IsSolution}
use Rattle.vrt_model.specs.State.{IsState, Setting, State, network_of}
use Rattle.vrt_model.specs.declared.circuit.Circuit.{Circuit}
use Rattle.vrt_model.specs.declared.circuit.Device.{Device}
use Rattle.vrt_model.specs.declared.rules.Phase.{Phase}

-- a reading has the bits of the known nets that are gates of the bare circuit
abbrev pub HasKnownGates : Circuit → Phase → (ℕ → Bool) → Type 0
HasKnownGates c phase reading = (d : Device) (v : Bool) → Among (devices_of bare c) d → IsKnown c phase d.gate.0 v → reading d.gate.0 ≡ v

-- The law: a known net shows its bit in each state that has the bits of known gates, whatever the holds and the output pins are.
abbrev pub KnownNetsShow : Type 0
KnownNetsShow =
    (c : Circuit) (phase : Phase) (setting : Setting) (s : State)
    → HasRanges c → AreOutputsPlain c → IsState c phase setting.inputs s → HasKnownGates c phase s.reading
    → (n : ℕ) (v : Bool) → IsKnown c phase n v → IsResponse (network_of c bare setting.held s) n (Shows v)

-- The law: where all gates of the bare circuit are observed, each solution gives an observed known net its bit.
abbrev pub KnownNetsAreSolved : Type 0
KnownNetsAreSolved =
    (c : Circuit) (phase : Phase) (observed : ℕ → Bool) (setting : Setting) (a : ℕ → Option Bool)
    → HasRanges c → AreOutputsPlain c → ((d : Device) → Among (devices_of bare c) d → observed d.gate.0 ≡ true)
    → IsSolution c phase observed setting a
    → (n : ℕ) (v : Bool) → IsKnown c phase n v → observed n ≡ true → a n ≡ Some v

-- The law: no arc leads to a known net.
abbrev pub NoArcsToKnownNets : Type 0
NoArcsToKnownNets = (c : Circuit) (phase : Phase) (n m : ℕ) → HasArc c phase n m → IsUnknown c phase m
