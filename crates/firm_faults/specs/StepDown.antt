-- A circuit with a cell in it, and the circuit in which this instance is left whole: what the law of firm ground asks of the two. An output
-- of the instance that meets more than gates is exposed. Nets keep their numbers.
use Rattle.std.specs.Prelude.{◌≡◌, ◌≢◌, ◌⊎◌, ◌↔◌, ℕ, Bool, true, false, List}
use Rattle.cell_inside.specs.LeftWhole.{IsLeftWhole}
use Rattle.cell_inside.specs.Placed.{IsPlaced}
use Rattle.cell_inside.specs.Regions.{ArePinsPlain, IsGivenNet}
use Rattle.firm_faults.specs.FirmGround.{IsOnFirmGround}
use Rattle.firm_faults.specs.Settled.{IsBrokenAt, IsInstanceOfWhole, nets_named_at}
use Rattle.vrt_model.specs.Assignment.{Assignment, IsAssignment}
use Rattle.vrt_model.specs.Checked.{with_circuit}
use Rattle.vrt_model.specs.Comparison.{Comparison, is_observed, phase_at}
use Rattle.vrt_model.specs.Determined.{IsLinkedTo}
use Rattle.vrt_model.specs.Known.{HasArc, IsKnown, IsPlain, IsRanking, IsTogether, IsUnknown}
use Rattle.vrt_model.specs.Levels.{source_level}
use Rattle.vrt_model.specs.Lists.{Among, At}
use Rattle.vrt_model.specs.Networks.{HasRanges}
use Rattle.vrt_model.specs.Path.{level_of_drive}
use Rattle.vrt_model.specs.Reading.{IsReading, bare, devices_of, kept}
use Rattle.vrt_model.specs.Response.{IsResponse, IsStrength, Shows}
use Rattle.vrt_model.specs.State.{IsState, OutputPin, Setting, State, network_of, output_pins, surroundings_of_whole}
use Rattle.vrt_model.specs.WholeInstances.{IsChain}
use Rattle.vrt_model.specs.declared.circuit.Circuit.{Circuit}
use Rattle.vrt_model.specs.declared.circuit.Device.{Device}
use Rattle.vrt_model.specs.declared.circuit.FlatInstance.{FlatInstance}
use Rattle.vrt_model.specs.declared.circuit.FlatNet.{FlatNet}
use Rattle.vrt_model.specs.declared.circuit.NetKind.TheVariants.{Clock, Input}
use Rattle.vrt_model.specs.declared.rules.ClockRef.{ClockRef}
use Rattle.vrt_model.specs.declared.rules.Phase.{Phase}
use Rattle.vrt_model.specs.declared.verdict.FaultKind.{FaultKind}
use Rattle.vrt_model.specs.declared.verdict.FaultKind.TheVariants.{Fight, FightKept, Float, Unsettled, Constraint, Differs, Next, Apart, Enter}
use Rattle.vrt_model.specs.declared.whole.Whole.{Whole}
use Rattle.vrt_model.specs.declared.whole.WholePin.{WholePin}

-- ---- whole instances

-- the second whole instance is the first one: it has the same model, inputs and outputs, to which at least the same is linked
pub record IsSameWhole (phase : Phase) (w v : Whole) : Type 0 where
  pub model : v.model ≡ w.model
  pub clocked : v.clocked ≡ w.clocked
  pub inputs : v.inputs ≡ w.inputs
  pub outputs : (at : ℕ) (pin : WholePin) → At w.outputs at pin → (p : WholePin) × At v.outputs at p × (p.net ≡ pin.net)
  pub links : (input : WholePin) (at : ℕ) → IsLinkedTo phase w input at → IsLinkedTo phase v input at

-- the whole instances of the circuit stay, each pin at its new place, and x is one more
pub record HasOneMoreWhole (phase : Phase) (c whole_circuit : Circuit) (place : ℕ → ℕ) (x : Whole) : Type 0 where
  pub own : Among whole_circuit.wholes x
  pub wholes : (w : Whole) → Among c.wholes w → (v : Whole) × Among whole_circuit.wholes v × IsSameWhole phase w v
  pub pins :
      (i : ℕ) (out : OutputPin) → At (output_pins c) i out
      → (pin : OutputPin) × At (output_pins whole_circuit) (place i) pin × IsSameWhole phase out.whole pin.whole × (pin.pin.net ≡ out.pin.net)
      × (pin.pin.signal ≡ out.pin.signal)
  pub pins_back :
      (j : ℕ) (pin : OutputPin) → At (output_pins whole_circuit) j pin
      → (pin.whole ≡ x) ⊎ ((i : ℕ) × (out : OutputPin) × At (output_pins c) i out × (pin.pin.net ≡ out.pin.net))
  -- the models have an assignment at any bits of their inputs
  pub assigned : (w : Whole) (reading : ℕ → Bool) → Among whole_circuit.wholes w → (g : Assignment) × IsAssignment w.model (surroundings_of_whole phase w reading) g

-- the originals of the whole instances stay, each that of the same whole instance, and i is that of x
pub record HasOneMoreOriginal (phase : Phase) (c whole_circuit : Circuit) (originals whole_originals : List FlatInstance) (x : Whole) (i : FlatInstance) : Type 0 where
  pub own : IsInstanceOfWhole whole_circuit whole_originals x i
  pub stay :
      (w : Whole) (y : FlatInstance) → IsInstanceOfWhole c originals w y
      → (v : Whole) × IsInstanceOfWhole whole_circuit whole_originals v y × IsSameWhole phase w v × Among whole_circuit.instances y

-- ---- the cell

-- The cell alone: which of its nets are known, and which are in one part, can be told, and its nets have ranks; all gates are observed.
pub record IsCellRanked (cell : Circuit) (phase : Phase) (observed known : ℕ → Bool) (together : ℕ → ℕ → Bool) (rank : ℕ → ℕ) : Type 0 where
  pub ranges : HasRanges cell
  pub gates : (d : Device) → Among (devices_of bare cell) d → observed d.gate.0 ≡ true
  pub known_nets : (n : ℕ) → (known n ≡ true) ↔ ((v : Bool) × IsKnown cell phase n v)
  pub parts : (n m : ℕ) → (together n m ≡ true) ↔ IsTogether cell phase bare n m
  pub ranking : IsRanking cell phase rank

-- A solution of the cell at the bits that a state gives its inputs and clocks: each observed net shows its bit, and so the model drives the
-- outputs; an exposed output has the strength of its drive.
pub record IsInnerSolution (cell whole_circuit : Circuit) (phase : Phase) (observed exposed : ℕ → Bool) (at fresh drive : ℕ → ℕ) (x : Whole) (r : State) (bits : ℕ → Bool) : Type 0 where
  pub reads : IsReading cell phase bits bits
  pub given : (n : ℕ) → IsGivenNet cell n → bits n ≡ r.reading (at n)
  pub known : (n : ℕ) (v : Bool) → observed n ≡ true → IsKnown cell phase n v → bits n ≡ v
  pub shows :
      (n : ℕ) → IsPlain cell n → observed n ≡ true
      → IsResponse (network_of cell bare (λ place. false) (record { reading = bits; driven = λ place. false })) n (Shows (bits n))
  pub drives :
      (n : ℕ) (pin : OutputPin) → At (output_pins whole_circuit) (fresh n) pin → pin.whole ≡ x → IsPlain cell n → pin.pin.net.0 ≡ at n
      → r.driven (fresh n) ≡ bits n
  pub strengths :
      (n : ℕ) (which : Bool) → exposed n ≡ true
      → IsStrength (network_of cell which (λ place. false) (record { reading = bits; driven = λ place. false })) n (drive n)

-- ---- the step

-- the pin at a place of x is that of a net of the cell
abbrev pub IsPinOf : Circuit → (ℕ → ℕ) → Whole → ℕ → ℕ → WholePin → Type 0
IsPinOf whole_circuit fresh x n at pin = At x.outputs at pin × At (output_pins whole_circuit) (fresh n) (record { whole = x; pin = pin })

-- The circuit of k has a cell in it; in the other circuit it is whole, as x, the instance i.
pub record IsStepDown (k : Comparison) (phase : ℕ) (setting : Setting) (cell whole_circuit : Circuit) (at place fresh : ℕ → ℕ) (remaining compared cell_observed exposed : ℕ → Bool)
    (drive : ℕ → ℕ) (x : Whole) (i : FlatInstance) : Type 0 where
  pub ranges : HasRanges k.circuit
  pub whole_ranges : HasRanges whole_circuit
  pub pins_plain : ArePinsPlain whole_circuit
  pub nets : whole_circuit.nets ≡ k.circuit.nets
  pub placed : IsPlaced cell k.circuit at exposed drive
  pub whole : IsLeftWhole cell k.circuit whole_circuit at (λ n. n) place fresh remaining compared exposed drive
  pub wholes : HasOneMoreWhole (phase_at k.rules phase) k.circuit whole_circuit place x
  -- what is hidden is inside; where a net of the cell remains it is an observed output, which x drives, softly if it is not exposed
  pub hidden : (n : ℕ) → compared n ≡ false → (m : ℕ) × (n ≡ at m) × IsPlain cell m
  pub outputs :
      (m : ℕ) → IsPlain cell m → remaining (at m) ≡ true
      → (cell_observed m ≡ true)
      × ((pin : OutputPin) × At (output_pins whole_circuit) (fresh m) pin × (pin.whole ≡ x) × (pin.pin.net.0 ≡ at m) × (exposed m ≡ false → level_of_drive (source_level whole_circuit) pin.pin.drive ≡ source_level whole_circuit))
  -- an exposed output is not known in the cell, and no other output is in its part of the kept cell
  pub unknown : (m : ℕ) → exposed m ≡ true → IsUnknown cell (phase_at k.rules phase) m
  pub alone :
      (m n : ℕ) → exposed m ≡ true → IsPlain cell n → remaining (at n) ≡ true → IsTogether cell (phase_at k.rules phase) kept m n → at m ≡ at n
  -- what is observed with the cell whole remains, and is observed with it in the circuit, where all gates are
  pub seen : (n : ℕ) → is_observed (with_circuit k whole_circuit) phase n ≡ true → (remaining n ≡ true) × (is_observed k phase n ≡ true)
  pub gates : (d : Device) → Among (devices_of bare k.circuit) d → is_observed k phase d.gate.0 ≡ true
  -- the instances that are left are some of those that were there, and i is one
  pub instances : (y : FlatInstance) → Among whole_circuit.instances y → Among k.circuit.instances y
  pub instance : Among whole_circuit.instances i
  -- each input from which a chain of arcs leads to an output inside is observed and linked to it, and the clock ports are named
  pub links :
      (j m n : ℕ) (pin : WholePin) (net : FlatNet) → IsPinOf whole_circuit fresh x m j pin → IsPlain cell m → pin.net.0 ≡ at m → At cell.nets n net → net.kind ≡ Input
      → IsChain (HasArc cell (phase_at k.rules phase)) n m
      → (input : WholePin) × Among x.inputs input × (input.net.0 ≡ at n) × IsLinkedTo (phase_at k.rules phase) x input j × (input.observed ≡ true)
  -- and so is each other exposed output from a net of whose part inside one does
  pub output_links :
      (j m l n : ℕ) (pin : WholePin) → IsPinOf whole_circuit fresh x m j pin → IsPlain cell m → pin.net.0 ≡ at m → exposed l ≡ true → l ≢ m
      → IsTogether cell (phase_at k.rules phase) bare l n → IsChain (HasArc cell (phase_at k.rules phase)) n m
      → (from : WholePin) × Among x.outputs from × (from.net.0 ≡ at l) × IsLinkedTo (phase_at k.rules phase) x from j
  pub clocks : (n : ℕ) (net : FlatNet) (clock : ClockRef) → At cell.nets n net → net.kind ≡ Clock clock → Among (nets_named_at k phase i) (at n)
  -- in each state a constraint of the instance is broken, or the cell has a solution at its bits
  pub inner :
      (r : State) → IsState whole_circuit (phase_at k.rules phase) setting.inputs r
      → IsBrokenAt k phase r.reading i ⊎ ((bits : ℕ → Bool) × IsInnerSolution cell whole_circuit (phase_at k.rules phase) cell_observed exposed at fresh drive x r bits)

-- the place of a fault in the one circuit and in the other: a net keeps its number, and an instance may stand elsewhere in the list
abbrev pub IsSamePlaceIn : Circuit → Circuit → FaultKind → ℕ → ℕ → Type 0
IsSamePlaceIn c d Constraint at there = (i : FlatInstance) × At c.instances at i × At d.instances there i
IsSamePlaceIn c d Fight at there = at ≡ there
IsSamePlaceIn c d Float at there = at ≡ there
IsSamePlaceIn c d FightKept at there = at ≡ there
IsSamePlaceIn c d Unsettled at there = at ≡ there
IsSamePlaceIn c d Differs at there = at ≡ there
IsSamePlaceIn c d Next at there = at ≡ there
IsSamePlaceIn c d Apart at there = at ≡ there
IsSamePlaceIn c d Enter at there = at ≡ there

-- The law: what is on firm ground with the cell whole is on firm ground with the cell in the circuit.
abbrev pub FirmGroundGoesDown : Type 0
FirmGroundGoesDown =
    (k : Comparison) (phase : ℕ) (setting : Setting) (cell whole_circuit : Circuit) (at place fresh : ℕ → ℕ) (remaining compared cell_observed exposed known : ℕ → Bool)
    (together : ℕ → ℕ → Bool) (drive rank : ℕ → ℕ) (x : Whole) (i : FlatInstance) (originals whole_originals : List FlatInstance) (kind : FaultKind) (n : ℕ)
    → IsStepDown k phase setting cell whole_circuit at place fresh remaining compared cell_observed exposed drive x i
    → HasOneMoreOriginal (phase_at k.rules phase) k.circuit whole_circuit originals whole_originals x i
    → IsCellRanked cell (phase_at k.rules phase) cell_observed known together rank
    → IsOnFirmGround (with_circuit k whole_circuit) whole_originals phase setting kind n
    → (m : ℕ) × IsSamePlaceIn whole_circuit k.circuit kind n m × IsOnFirmGround k originals phase setting kind m
