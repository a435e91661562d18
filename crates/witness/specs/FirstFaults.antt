-- What a replay shows where the first fault of a phase stands.
use Rattle.std.specs.Prelude.{◌≡◌, ◌≢◌, ℕ, ◌<◌, Bool, true, List, length}
use Rattle.vrt_model.specs.Comparison.{Comparison, is_observed, phase_at}
use Rattle.vrt_model.specs.Held.{setting_of}
use Rattle.vrt_model.specs.Lists.{At}
use Rattle.vrt_model.specs.Places.{Finding}
use Rattle.vrt_model.specs.State.{Setting}
use Rattle.vrt_model.specs.declared.circuit.Circuit.{Circuit}
use Rattle.vrt_model.specs.declared.circuit.FlatNet.{FlatNet}
use Rattle.vrt_model.specs.declared.circuit.Hold.{Hold}
use Rattle.vrt_model.specs.declared.circuit.NetKind.TheVariants.{Input}
use Rattle.vrt_model.specs.declared.verdict.FaultKind.{FaultKind}
use Rattle.vrt_model.specs.declared.verdict.FaultKind.TheVariants.{Fight as FightFault, FightKept, Float as FloatFault, Unsettled, Constraint, Differs, Next, Apart, Enter}
use Rattle.witness.specs.Replays.{AreValues}
use Rattle.witness.specs.declared.seen.Seen.{Seen}
use Rattle.witness.specs.declared.seen.Seen.TheVariants.{Bit, Fight, Float, Blocked}

-- two settings give the inputs and the holds of a circuit the same bits
pub record HasSameBits (c : Circuit) (one other : Setting) : Type 0 where
  pub inputs : (n : ℕ) (net : FlatNet) → At c.nets n net → net.kind ≡ Input → one.inputs n ≡ other.inputs n
  pub held : (i : ℕ) (hold : Hold) → At c.holds i hold → one.held i ≡ other.held i

-- the net shows a bit in the bare circuit, and in the kept circuit not this bit, though no gate of its part lacks one
abbrev pub LosesBit : List Seen → List Seen → ℕ → Type 0
LosesBit bare kept n = (v : Bool) × (seen : Seen) × At bare n (Bit v) × At kept n seen × (seen ≢ Bit v) × (seen ≢ Blocked)

-- these values show a fault of this kind at the net; of the other kinds nothing is said
abbrev pub ShowsFault : List Seen → List Seen → FaultKind → ℕ → Type 0
ShowsFault bare kept FightFault n = At bare n Fight
ShowsFault bare kept FloatFault n = At bare n Float
ShowsFault bare kept FightKept n = At kept n Fight
ShowsFault bare kept Unsettled n = LosesBit bare kept n
ShowsFault bare kept Constraint n = Unit {0}
ShowsFault bare kept Differs n = Unit {0}
ShowsFault bare kept Next n = Unit {0}
ShowsFault bare kept Apart n = Unit {0}
ShowsFault bare kept Enter n = Unit {0}

-- observed nets are nets of the circuit
abbrev pub AreNetsObserved : Comparison → ℕ → Type 0
AreNetsObserved k phase = (n : ℕ) → is_observed k phase n ≡ true → n < length k.circuit.nets

-- The first fault of a phase is shown by the values of all nets at its valuation.
abbrev pub IsFirstFaultShown : Comparison → Finding → Type 0
IsFirstFaultShown k f =
    (setting : Setting) (bare kept : List Seen) → HasSameBits k.circuit setting (setting_of k f.phase f.bits)
    → AreValues k.circuit (phase_at k.rules f.phase) setting bare kept → ShowsFault bare kept f.kind f.at
