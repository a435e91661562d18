-- Nets of a cell that are known before anything is solved, in a circuit in which the cell stands.
use Rattle.std.specs.Prelude.{◌≡◌, ◌⊎◌, ℕ, Bool, true, [], Option, Some}
use Rattle.cell_inside.specs.Assured.{IsAssured}
use Rattle.cell_inside.specs.Inside.{Touches}
use Rattle.cell_inside.specs.Placed.{IsPlaced, IsSupply}
use Rattle.cell_inside.specs.Unjoined.{HasKnownGates}
use Rattle.vrt_model.specs.Known.{IsKnown, IsPlain, IsShut, IsUnknown}
use Rattle.vrt_model.specs.Lists.{Among, At}
use Rattle.vrt_model.specs.Networks.{HasRanges}
use Rattle.vrt_model.specs.Path.{Joins}
use Rattle.vrt_model.specs.Reading.{IsReading, bare, clock_bit, devices_of}
use Rattle.vrt_model.specs.Response.{IsResponse, Shows}
use Rattle.vrt_model.specs.Solution.{IsSolution}
use Rattle.vrt_model.specs.State.{IsState, Setting, State, network_of}
use Rattle.vrt_model.specs.declared.circuit.Circuit.{Circuit}
use Rattle.vrt_model.specs.declared.circuit.Device.{Device}
use Rattle.vrt_model.specs.declared.circuit.FlatNet.{FlatNet}
use Rattle.vrt_model.specs.declared.circuit.NetKind.TheVariants.{Clock}
use Rattle.vrt_model.specs.declared.rules.ClockRef.{ClockRef}
use Rattle.vrt_model.specs.declared.rules.Phase.{Phase}

-- a set of nets that is shut at a reading, where each gate of a device at the set is known, with its bit there
pub record IsSettledSet (cell : Circuit) (phase : Phase) (inside reading : ℕ → Bool) : Type 0 where
  pub shut : IsShut cell phase inside reading
  pub reads : IsReading cell phase reading reading
  pub gates : (m l : ℕ) (d : Device) → inside m ≡ true → Among (devices_of bare cell) d → Joins d m l → IsKnown cell phase d.gate.0 (reading d.gate.0)

-- no exposed net is in such a set
abbrev pub AreExposedUnsettled : Circuit → Phase → (ℕ → Bool) → Type 0
AreExposedUnsettled cell phase exposed = (inside reading : ℕ → Bool) (n : ℕ) → IsSettledSet cell phase inside reading → inside n ≡ true → exposed n ≡ true → ⊥

-- The law: a plain net that is known in the cell shows its bit in each state of the circuit that gives the known gates of the
-- cell their bits.
abbrev pub KnownInsideShows : Type 0
KnownInsideShows =
    (cell c : Circuit) (at : ℕ → ℕ) (exposed : ℕ → Bool) (drive : ℕ → ℕ) (phase : Phase) (setting : Setting) (s : State)
    → HasRanges cell → HasRanges c → IsPlaced cell c at exposed drive → AreExposedUnsettled cell phase exposed
    → IsState c phase setting.inputs s → HasKnownGates cell phase bare at s
    → (n : ℕ) (v : Bool) → IsKnown cell phase n v → IsPlain cell n → IsResponse (network_of c bare setting.held s) (at n) (Shows v)

-- The law: each solution of the circuit that gives the clock ports of the cell their bits has the bit of each net that is known
-- in the cell, where it is observed.
abbrev pub KnownInsideIsSolved : Type 0
KnownInsideIsSolved =
    (cell c : Circuit) (at : ℕ → ℕ) (exposed : ℕ → Bool) (drive : ℕ → ℕ) (phase : Phase) (observed : ℕ → Bool) (setting : Setting) (a : ℕ → Option Bool)
    → HasRanges cell → HasRanges c → IsPlaced cell c at exposed drive → AreExposedUnsettled cell phase exposed
    → ((d : Device) → Among (devices_of bare c) d → observed d.gate.0 ≡ true)
    → IsSolution c phase observed setting a
    → ((n : ℕ) (net : FlatNet) (clock : ClockRef) → At cell.nets n net → net.kind ≡ Clock clock → observed (at n) ≡ true → a (at n) ≡ Some (clock_bit phase clock))
    → (n : ℕ) (v : Bool) → IsKnown cell phase n v → observed (at n) ≡ true → a (at n) ≡ Some v

-- The law: in the cell alone, with the bits that a state of the circuit gives its gates, a plain net that is known shows its bit,
-- and conducting devices join it to no exposed net; so its bit is assured with the cell whole.
abbrev pub KnownInsideIsAssured : Type 0
KnownInsideIsAssured =
    (cell c whole_circuit : Circuit) (at moved : ℕ → ℕ) (compared exposed : ℕ → Bool) (drive : ℕ → ℕ) (phase : Phase) (setting : Setting) (s r : State)
    → HasRanges cell → IsPlaced cell c at exposed drive → AreExposedUnsettled cell phase exposed
    → IsState c phase setting.inputs s → HasKnownGates cell phase bare at s
    → (n : ℕ) (v : Bool) → IsKnown cell phase n v → IsPlain cell n → s.reading (at n) ≡ v
    → IsAssured cell whole_circuit at moved compared exposed setting s r (at n)

-- The law: where in one state of a cell without holds and whole instances, with the bits of known gates, each exposed net shows a
-- bit, and none is known, no exposed net is in a shut set with known gates.
abbrev pub UnknownOutputsAreUnsettled : Type 0
UnknownOutputsAreUnsettled =
    (cell : Circuit) (phase : Phase) (setting : Setting) (exposed : ℕ → Bool) (s : State)
    → HasRanges cell → cell.holds ≡ [] → cell.wholes ≡ []
    → ((d : Device) (n : ℕ) → Among cell.devices d → Touches d n → IsPlain cell n ⊎ ((value : Bool) × IsSupply cell n value))
    → IsState cell phase setting.inputs s → HasKnownGates cell phase bare (λ n. n) s
    → ((n : ℕ) → exposed n ≡ true → IsUnknown cell phase n)
    → ((n : ℕ) → exposed n ≡ true → (v : Bool) × IsResponse (network_of cell bare setting.held s) n (Shows v))
    → AreExposedUnsettled cell phase exposed
