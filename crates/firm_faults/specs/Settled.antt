-- Nets that are settled in a state: whatever the other nets are, they respond as in it.
use Rattle.std.specs.Prelude.{◌≡◌, ℕ, ◌⊎◌, Bool, true, List, Some}
use Rattle.cell_inside.specs.Regions.{ArePinsPlain, IsGivenNet, IsRegion}
use Rattle.vrt_model.specs.Comparison.{Comparison, cell_at, is_observed, phase_at}
use Rattle.vrt_model.specs.Determined.{IsLinkedTo}
use Rattle.vrt_model.specs.Faults.{BreaksConstraint, Responds, Solves}
use Rattle.vrt_model.specs.Lists.{Among, At}
use Rattle.vrt_model.specs.Networks.{HasRanges}
use Rattle.vrt_model.specs.Places.{is_named, named_nets_from}
use Rattle.vrt_model.specs.Reading.{Partial, bare}
use Rattle.vrt_model.specs.Response.{Fight, IsResponse, Response, Shows}
use Rattle.vrt_model.specs.State.{IsState, Setting, State, network_of}
use Rattle.vrt_model.specs.declared.circuit.Circuit.{Circuit}
use Rattle.vrt_model.specs.declared.circuit.FlatInstance.{FlatInstance}
use Rattle.vrt_model.specs.declared.rules.Phase.{Phase}
use Rattle.vrt_model.specs.declared.whole.Whole.{Whole}
use Rattle.vrt_model.specs.declared.whole.WholePin.{WholePin}

-- ---- constraints

-- the nets of the ports that the constraints of an instance's cell name in a phase
abbrev pub nets_named_at : Comparison → ℕ → FlatInstance → List ℕ
nets_named_at k phase i = named_nets_from (is_named k phase i) (cell_at k.design i.cell).ports i.ports

-- a constraint of the instance is broken at the bits of a reading
abbrev pub IsBrokenAt : Comparison → ℕ → (ℕ → Bool) → FlatInstance → Type 0
IsBrokenAt k phase reading i = BreaksConstraint k.design k.rules phase (λ n. Some (reading n)) i

-- The instance is the one that a whole instance of the circuit stands for. The originals are these, one for each whole instance, in their
-- order: paths as texts do not tell them, since two instances may have one, as `x1/x2` beside the `x2` in an `x1`.
abbrev pub IsInstanceOfWhole : Circuit → List FlatInstance → Whole → FlatInstance → Type 0
IsInstanceOfWhole c originals w i = (place : ℕ) × At c.wholes place w × At originals place i

-- ---- what is settled

-- Where a whole instance drives a net of a region, the inputs that are linked to this output and observed inside, and the ports that the
-- instance's constraints name, are in the region's base or given, and these constraints are kept in the state.
pub record IsBacked (k : Comparison) (originals : List FlatInstance) (phase : ℕ) (s : State) (region base : ℕ → Bool) : Type 0 where
  pub linked :
      (w : Whole) (at : ℕ) (pin input : WholePin) → Among k.circuit.wholes w → At w.outputs at pin → region pin.net.0 ≡ true → Among w.inputs input
      → IsLinkedTo (phase_at k.rules phase) w input at → input.observed ≡ true
      → (base input.net.0 ≡ true) ⊎ IsGivenNet k.circuit input.net.0
  pub named :
      (w : Whole) (pin : WholePin) (i : FlatInstance) (n : ℕ) → Among k.circuit.wholes w → Among w.outputs pin → region pin.net.0 ≡ true
      → Among k.circuit.instances i → IsInstanceOfWhole k.circuit originals w i → Among (nets_named_at k phase i) n
      → (base n ≡ true) ⊎ IsGivenNet k.circuit n
  pub unbroken :
      (w : Whole) (pin : WholePin) (i : FlatInstance) → Among k.circuit.wholes w → Among w.outputs pin → region pin.net.0 ≡ true
      → Among k.circuit.instances i → IsInstanceOfWhole k.circuit originals w i → ¬ IsBrokenAt k phase s.reading i

-- the net is observed, and shows its own bit in the state
abbrev pub ShowsOwnBit : Comparison → ℕ → Setting → State → ℕ → Type 0
ShowsOwnBit k phase setting s n =
    (is_observed k phase n ≡ true) × IsResponse (network_of k.circuit bare setting.held s) n (Shows (s.reading n))

-- the net of an output of a whole instance that is linked to one of its outputs at the region
abbrev pub IsLinkedOutput : Circuit → Phase → (ℕ → Bool) → ℕ → Type 0
IsLinkedOutput c phase region n =
    (w : Whole) × (at : ℕ) × (pin : WholePin) × (from : WholePin) × Among c.wholes w × At w.outputs at pin × (region pin.net.0 ≡ true)
    × Among w.outputs from × IsLinkedTo phase w from at × (from.net.0 ≡ n)

-- A net is settled where it is given, or in a region, each net of whose base shows its own bit and is settled, and where each output that is
-- linked to one at the region is settled too and does not fight. Such an output need not be observed, so it shows some bit and not its own.
pub data IsSettled (k : Comparison) (originals : List FlatInstance) (phase : ℕ) (setting : Setting) (s : State) : ℕ → Type 0 where
  given : {n : ℕ} → IsGivenNet k.circuit n → IsSettled k originals phase setting s n
  within :
      {n : ℕ} (region base : ℕ → Bool)
      → IsRegion k.circuit (phase_at k.rules phase) setting region base s.reading
      → IsBacked k originals phase s region base
      → region n ≡ true
      → ((m : ℕ) → base m ≡ true → ShowsOwnBit k phase setting s m)
      → ((m : ℕ) → base m ≡ true → IsSettled k originals phase setting s m)
      → ((m : ℕ) → IsLinkedOutput k.circuit (phase_at k.rules phase) region m → ¬ IsResponse (network_of k.circuit bare setting.held s) m Fight)
      → ((m : ℕ) → IsLinkedOutput k.circuit (phase_at k.rules phase) region m → IsSettled k originals phase setting s m)
      → IsSettled k originals phase setting s n

-- The law: with each solution a settled net always responds as in the state, be it by a bit, a fight or a float.
abbrev pub SettledNetsStand : Type 0
SettledNetsStand =
    (k : Comparison) (originals : List FlatInstance) (phase : ℕ) (setting : Setting) (s : State) (a : Partial)
    → HasRanges k.circuit → ArePinsPlain k.circuit → IsState k.circuit (phase_at k.rules phase) setting.inputs s → Solves k phase setting a
    → (n : ℕ) (r : Response) → IsSettled k originals phase setting s n → IsResponse (network_of k.circuit bare setting.held s) n r → Responds k phase setting a bare n r
