-- A circuit in a phase, and the steps in which it is looked through.
use Rattle.std.specs.Prelude.{◌≡◌, ℕ, zero, suc, ◌<◌, All, Bool, true, List, [], ◌∷◌, ◌++◌, Option, bytes_eq, length, map, option_map, slice_get, unwrap_or}
use Rattle.channel_parts.specs.PartLists.{least_of, net_numbers}
use Rattle.channel_parts.specs.declared.part.Part.{Part}
use Rattle.channel_parts.specs.declared.part.Parts.{Parts}
use Rattle.circuit_faults.specs.Ordered.{IsWholePart}
use Rattle.circuit_faults.specs.Scans.{IsInside}
use Rattle.circuit_faults.specs.declared.phased.PhasedCircuit.{PhasedCircuit}
use Rattle.circuit_faults.specs.declared.steps.CircuitStep.{CircuitStep}
use Rattle.circuit_faults.specs.declared.steps.CircuitStep.TheVariants.{Part as PartStep, Instance as InstanceStep}
use Rattle.constraints.specs.Obliged.{AreNamed, nets_named}
use Rattle.fault_places.specs.PhaseSpots.{Step, OfInstance, OfPart}
use Rattle.known_nets.specs.KnownTables.{IsKnownTable, known_at}
use Rattle.path_fixpoint.specs.Parts.{part_devices}
use Rattle.vrt_model.specs.Circuits.{IsNet}
use Rattle.vrt_model.specs.Comparison.{Comparison, cell_at, phase_at}
use Rattle.vrt_model.specs.Inputs.{AllApart, AreRules}
use Rattle.vrt_model.specs.Known.{IsPlain, IsUnknown}
use Rattle.vrt_model.specs.Lists.{At, Among, mark_at}
use Rattle.vrt_model.specs.Reading.{bare}
use Rattle.vrt_model.specs.declared.circuit.Circuit.{Circuit}
use Rattle.vrt_model.specs.declared.circuit.Device.{Device}
use Rattle.vrt_model.specs.declared.circuit.FlatInstance.{FlatInstance}
use Rattle.vrt_model.specs.declared.design.Design.{Design}
use Rattle.vrt_model.specs.declared.rules.Phase.{Phase}
use Rattle.vrt_model.specs.declared.rules.Rules.{Rules}

-- ---- a circuit in a phase

-- a circuit of a design in a phase of its rules, by number: its known nets and parts, the steps in which it is looked
-- through, and its observed nets
pub record InPhase : Type 0 where
  pub design : Design
  pub rules : Rules
  pub circuit : Circuit
  pub phase : ℕ
  pub known : List (Option Bool)
  pub parts : List Part
  pub steps : List CircuitStep
  pub observed : ℕ → Bool

-- what the code has of it
abbrev pub in_phase : PhasedCircuit → InPhase
in_phase p = record {
  design = p.design.now;
  rules = p.rules.now;
  circuit = p.circuit.now;
  phase = p.phase;
  known = p.parts.now.known;
  parts = p.parts.now.list;
  steps = p.steps.now;
  observed = mark_at p.observed.now;
}

-- the circuit of a comparison, with parts and steps of the phase
abbrev pub in_comparison : Comparison → ℕ → Parts → List CircuitStep → (ℕ → Bool) → InPhase
in_comparison k phase parts steps observed = record {
  design = k.design;
  rules = k.rules;
  circuit = k.circuit;
  phase = phase;
  known = parts.known;
  parts = parts.list;
  steps = steps;
  observed = observed;
}

-- the phase by its number
abbrev pub phase_of : InPhase → Phase
phase_of w = phase_at w.rules w.phase

-- ---- steps

-- a part as a step of the search: its least net and its nets
abbrev pub part_step : Part → Step
part_step part = OfPart (least_of part) (net_numbers part.nets)

-- the step of the search, where parts have these numbers
abbrev pub step_of : List Part → CircuitStep → Step
step_of parts (PartStep number) = unwrap_or (option_map part_step (slice_get parts number)) (OfPart 0 [])
step_of parts (InstanceStep at) = OfInstance at

abbrev pub steps_of : InPhase → List Step
steps_of w = map (step_of w.parts) w.steps

-- the steps of so many parts, in their order
abbrev pub part_list : ℕ → List CircuitStep
part_list zero = []
part_list (suc count) = part_list count ++ PartStep count ∷ []

-- there is a part or an instance of this number
abbrev pub IsStepThere : List Part → Circuit → CircuitStep → Type 0
IsStepThere parts c (PartStep number) = number < length parts
IsStepThere parts c (InstanceStep at) = at < length c.instances

abbrev pub IsThere : InPhase → CircuitStep → Type 0
IsThere w step = IsStepThere w.parts w.circuit step

-- the part, and the instance, at a place of the steps
abbrev pub IsPartAt : InPhase → ℕ → Part → Type 0
IsPartAt w k part = (number : ℕ) × At w.steps k (PartStep number) × At w.parts number part

abbrev pub IsInstanceAt : InPhase → ℕ → ℕ → FlatInstance → Type 0
IsInstanceAt w k at i = At w.steps k (InstanceStep at) × At w.circuit.instances at i

-- the net is in a part of a step before a place
abbrev pub IsInStepBefore : InPhase → ℕ → ℕ → Type 0
IsInStepBefore w k n = (j : ℕ) × (part : Part) × (j < k) × IsPartAt w j part × IsInside part n

-- the nets of the ports of an instance that a constraint of its cell names in the phase
abbrev pub named_at : InPhase → FlatInstance → List ℕ
named_at w i = nets_named w.design w.rules w.phase i

-- The known nets, and all parts of the plain nets among the steps, so ordered that the gates of a part that are plain and
-- not known, and such nets of an instance that its constraints name, are in parts of steps before it.
pub record AreOrderedSteps (w : InPhase) : Type 0 where
  pub count : length w.known ≡ length w.circuit.nets
  pub table : IsKnownTable w.circuit (phase_of w) (known_at w.known)
  pub each : (part : Part) → Among w.parts part → IsWholePart bare w.circuit (phase_of w) part
  pub there : (k : ℕ) (step : CircuitStep) → At w.steps k step → IsThere w step
  pub all : (n : ℕ) → IsPlain w.circuit n → IsInStepBefore w (length w.steps) n
  pub gates :
      (k : ℕ) (part : Part) (d : Device) → IsPartAt w k part → Among (part_devices w.circuit part) d → IsPlain w.circuit d.gate.0 → IsUnknown w.circuit (phase_of w) d.gate.0
      → IsInStepBefore w k d.gate.0
  pub ports :
      (k at : ℕ) (i : FlatInstance) (n : ℕ) → IsInstanceAt w k at i → Among (named_at w i) n → IsPlain w.circuit n → IsUnknown w.circuit (phase_of w) n
      → IsInStepBefore w k n

-- what is asked of an instance: its cell's ports have different names, the lines of its cell name ports of it, each port
-- has a net of the circuit, and the nets of the named ports are observed
pub record IsReadyInstance (w : InPhase) (i : FlatInstance) : Type 0 where
  pub rules : AreRules w.rules
  pub apart : AllApart bytes_eq (cell_at w.design i.cell).ports
  pub named : AreNamed w.rules (cell_at w.design i.cell)
  pub ports : length i.ports ≡ length (cell_at w.design i.cell).ports
  pub nets : All (IsNet w.circuit) i.ports
  pub seen : (n : ℕ) → Among (named_at w i) n → w.observed n ≡ true
