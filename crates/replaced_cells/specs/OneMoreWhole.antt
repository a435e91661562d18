-- A circuit with a cell in it, and the circuit in which this instance is whole too. Its outputs meet gates alone, but for exposed ones,
-- which may meet channels. Nets keep their numbers: the net n of the cell is at the net `at n` of both.
use Rattle.std.specs.Prelude.{◌≡◌, ℕ, ◌<◌, ◌≤◌, Bool, true, false, List, [], Option, Some, length, is_some}
use Rattle.cell_inside.specs.Inside.{Touches}
use Rattle.cell_inside.specs.LeftWhole.{Correspond, IsLeftWhole}
use Rattle.cell_inside.specs.Placed.{IsPlaced}
use Rattle.channel_parts.specs.OneSolution.{AreDetermined}
use Rattle.vrt_model.specs.Checked.{with_circuit}
use Rattle.vrt_model.specs.Comparison.{CellPort, Comparison, is_observed, output_signal, phase_at, ports_of}
use Rattle.vrt_model.specs.Constraints.{Meets}
use Rattle.vrt_model.specs.Faults.{Solves}
use Rattle.vrt_model.specs.Held.{setting_of}
use Rattle.vrt_model.specs.Known.{IsPlain, IsTogether, IsUnknown}
use Rattle.vrt_model.specs.Lists.{Among, At}
use Rattle.vrt_model.specs.Networks.{HasRanges}
use Rattle.vrt_model.specs.Reading.{IsReading, Partial, kept}
use Rattle.vrt_model.specs.Response.{IsStrength}
use Rattle.vrt_model.specs.Solution.{Agrees}
use Rattle.vrt_model.specs.State.{IsState, OutputPin, Setting, State, network_of, output_pins}
use Rattle.vrt_model.specs.Variables.{enter_of}
use Rattle.vrt_model.specs.declared.circuit.Circuit.{Circuit}
use Rattle.vrt_model.specs.declared.circuit.Device.{Device}
use Rattle.vrt_model.specs.declared.circuit.FlatInstance.{FlatInstance}
use Rattle.whole_ranks.specs.WholeCells.{IsLogicCell, IsOutputAt, StandsFor}
use Rattle.whole_solutions.specs.Instances.{HasGivenPorts, IsInstanceOf}
use Rattle.whole_solutions.specs.Observed.{HasLeftInstances, HidesItsNets}

-- the test that no net passes: each output meets gates alone
abbrev pub no_net : ℕ → Bool
no_net n = false

-- ---- output pins

-- two output pins have one signal of one model, with the same inputs
pub record HasSameSignal (out pin : OutputPin) : Type 0 where
  pub model : pin.whole.model ≡ out.whole.model
  pub clocked : pin.whole.clocked ≡ out.whole.clocked
  pub inputs : pin.whole.inputs ≡ out.whole.inputs
  pub signal : pin.pin.signal ≡ out.pin.signal

-- The pins that stay keep their signals. The cell's own pin at a plain net of the cell is that of an instance that stands for the cell,
-- with the signal of the output port there; and there is a pin at each such net that remains.
pub record HasCellPins (k q : Comparison) (phase : ℕ) (whole_circuit : Circuit) (at place fresh : ℕ → ℕ) (remaining : ℕ → Bool) : Type 0 where
  pub stay :
      (i : ℕ) (out pin : OutputPin) → At (output_pins k.circuit) i out → At (output_pins whole_circuit) (place i) pin → HasSameSignal out pin
  pub own :
      (n : ℕ) (pin : OutputPin) → IsPlain q.circuit n → At (output_pins whole_circuit) (fresh n) pin → pin.pin.net.0 ≡ at n
      → StandsFor q phase whole_circuit (is_observed (with_circuit k whole_circuit) phase) at pin.whole × ((i : ℕ) × (port : CellPort) × IsOutputAt q i port pin.pin.signal × (port.net ≡ n))
  pub there : (n : ℕ) → IsPlain q.circuit n → remaining (at n) ≡ true → (pin : OutputPin) × Among (output_pins whole_circuit) pin × (pin.pin.net.0 ≡ at n)

-- ---- exposed outputs

-- the net of the cell has this strength at each valuation that meets the constraints of the phase, in the bare and in the kept circuit
abbrev pub HasPhaseLevel : Comparison → ℕ → ℕ → ℕ → Type 0
HasPhaseLevel q phase n level =
    (bits : List Bool) (a : Partial) (s : State) (which : Bool)
    → Meets q phase bits → Solves q phase (setting_of q phase bits) a
    → IsState q.circuit (phase_at q.rules phase) (setting_of q phase bits).inputs s → Agrees (is_observed q phase) a s.reading
    → IsStrength (network_of q.circuit which (setting_of q phase bits).held s) n level

-- What is promised of an exposed net of the cell: it is that of an output port, and not known; its drive is its strength, which no
-- device that stays at it exceeds; and no other exposed net is in its part of the kept circuit.
pub record IsExposedOutput (q : Comparison) (phase : ℕ) (whole_circuit : Circuit) (at : ℕ → ℕ) (exposed : ℕ → Bool) (drive : ℕ → ℕ) (n : ℕ) : Type 0 where
  pub port : (p : CellPort) × Among (ports_of q) p × (is_some (output_signal p.role) ≡ true) × (p.net ≡ n)
  pub level : HasPhaseLevel q phase n (drive n)
  pub below : (e : Device) → Among whole_circuit.devices e → Touches e (at n) → e.level ≤ drive n
  pub unknown : IsUnknown q.circuit (phase_at q.rules phase) n
  pub alone : (m : ℕ) → exposed m ≡ true → IsTogether q.circuit (phase_at q.rules phase) kept n m → m ≡ n

-- ---- the two circuits

-- In the phase the cell of q, which is equal, stands in the circuit of k and is whole in the other. Both have the same nets and the same
-- `enter` rules at their holds, and each output pin there is determined by observed nets.
pub record IsOneMoreWhole (k q : Comparison) (phase : ℕ) (whole_circuit : Circuit) (at place fresh : ℕ → ℕ) (remaining compared exposed : ℕ → Bool) (drive : ℕ → ℕ) : Type 0 where
  pub design : q.design ≡ k.design
  pub rules : q.rules ≡ k.rules
  -- the cell, without holds and latches
  pub cell : IsLogicCell q phase
  pub groups : q.groups ≡ []
  pub given : HasGivenPorts q phase
  pub within : (n : ℕ) → is_observed q phase n ≡ true → n < length q.circuit.nets
  pub outputs : (p : CellPort) → Among (ports_of q) p → is_some (output_signal p.role) ≡ true → IsPlain q.circuit p.net
  -- how it stands, and is whole
  pub placed : IsPlaced q.circuit k.circuit at exposed drive
  pub whole : IsLeftWhole q.circuit k.circuit whole_circuit at (λ n. n) place fresh remaining compared exposed drive
  pub instances : HasLeftInstances k q phase whole_circuit at
  pub hides : HidesItsNets k q phase whole_circuit at remaining compared
  pub instance : (i : FlatInstance) × Among whole_circuit.instances i × IsInstanceOf q at i
  pub pins : HasCellPins k q phase whole_circuit at place fresh remaining
  pub exposed_outputs : (n : ℕ) → exposed n ≡ true → IsExposedOutput q phase whole_circuit at exposed drive n
  -- what both have
  pub nets : whole_circuit.nets ≡ k.circuit.nets
  pub enters : (next i : ℕ) → enter_of whole_circuit next i ≡ enter_of k.circuit next i
  pub held_groups : (with_circuit k whole_circuit).groups ≡ k.groups
  pub ranges : HasRanges k.circuit
  pub whole_ranges : HasRanges whole_circuit
  pub determined : AreDetermined k.circuit (phase_at k.rules phase) (is_observed k phase)
  pub whole_determined : AreDetermined whole_circuit (phase_at k.rules phase) (is_observed (with_circuit k whole_circuit) phase)

-- ---- bits

-- all the bits of a reading, as a partial assignment
abbrev pub all_bits : (ℕ → Bool) → ℕ → Option Bool
all_bits reading n = Some (reading n)

-- Bits that are solutions at once: those of a state of the circuit, those of one with the cell whole, and, at a valuation that meets
-- the cell's constraints, the bits of the former at the cell's nets. Both states say the same of all nets that remain.
pub record AreSolvedAlike (k q : Comparison) (phase : ℕ) (whole_circuit : Circuit) (at place fresh : ℕ → ℕ) (remaining : ℕ → Bool) (setting : Setting)
    (s r : State) (bits : List Bool) : Type 0 where
  pub state : IsState k.circuit (phase_at k.rules phase) setting.inputs s
  pub whole_state : IsState whole_circuit (phase_at k.rules phase) setting.inputs r
  pub same : Correspond k.circuit (λ n. n) place fresh remaining no_net no_net s r
  pub meets : Meets q phase bits
  pub reads : IsReading q.circuit (phase_at q.rules phase) (setting_of q phase bits).inputs (λ n. s.reading (at n))
  pub solves : Solves k phase setting (all_bits s.reading)
  pub whole_solves : Solves (with_circuit k whole_circuit) phase setting (all_bits r.reading)
  pub cell_solves : Solves q phase (setting_of q phase bits) (all_bits (λ n. s.reading (at n)))
