-- What is found in a whole circuit.
use Rattle.std.specs.Prelude.{◌≡◌, ◌≢◌, ℕ, ◌*◌, ◌≤◌, ◌⊎◌, Bool, true, false, cond, List, flat_map, length, Option, Some, None, ◌+◌, slice_index}
use Rattle.node_pool.specs.declared.region.Span.{Span}
use Rattle.bdd_core.specs.Diagram.{Function, Valuation}
use Rattle.bdd_core.specs.Store.{Adds, AddsNodes, Diagrams, IsLive, IsSpan, Means, function_of}
use Rattle.bdd_core.specs.Words.{IsApart, IsBeside, IsFilled, shows}
use Rattle.bdd_core.specs.declared.handle.H.{H}
use Rattle.channel_parts.specs.declared.part.Part.{Part}
use Rattle.circuit_faults.specs.Cases.{CaseIn, StandsAt}
use Rattle.circuit_faults.specs.Faults.{HasFault, IsSolvedAt}
use Rattle.circuit_faults.specs.Scans.{PartGives}
use Rattle.circuit_faults.specs.Steps.{InPhase, phase_of, steps_of}
use Rattle.circuit_faults.specs.declared.net.CircuitFault.{CircuitFault}
use Rattle.circuit_faults.specs.declared.steps.CircuitStep.{CircuitStep}
use Rattle.circuit_faults.specs.declared.steps.CircuitStep.TheVariants.{Part as PartStep, Instance as InstanceStep}
use Rattle.constraints.specs.Obliged.{obliged_at}
use Rattle.fault_places.specs.PhaseSpots.{spots_of}
use Rattle.fault_places.specs.Searches.{IsClearOf, IsFoundIn}
use Rattle.path_fixpoint.specs.Parts.{pins_of}
use Rattle.path_fixpoint.specs.Strengths.{net_words}
use Rattle.vrt_model.specs.Lists.{At, Among}
use Rattle.vrt_model.specs.Solution.{Agrees}
use Rattle.vrt_model.specs.State.{IsState, OutputPin, Setting, State, output_pins}
use Rattle.vrt_model.specs.declared.circuit.Circuit.{Circuit}
use Rattle.vrt_model.specs.declared.circuit.FlatInstance.{FlatInstance}
use Rattle.vrt_model.specs.declared.rules.Phase.{Phase}
use Rattle.vrt_model.specs.declared.verdict.FaultKind.{FaultKind}
use Rattle.vrt_model.specs.declared.verdict.FaultKind.TheVariants.{Fight, Float, Constraint}
use Rattle.vrt_model.specs.Levels.{source_level}

-- the bits of the roots at a valuation
abbrev pub root_at : Diagrams → Span → Valuation → ℕ → Bool
root_at d roots v n = shows d roots n v

-- the words of the outputs of whole instances, behind those of the nets
abbrev pub output_span : Circuit → Span → Span
output_span c roots = record { start = roots.start + length c.nets; len = length (output_pins c) }

-- nodes were only added, and words of three spans alone changed
pub record WritesThree (a b c : Span) (old new : Diagrams) : Type 0 where
  pub adds : Adds old new new.words
  pub len : length new.words ≡ length old.words
  pub others : (j : ℕ) → IsBeside a j → IsBeside b j → IsBeside c j → slice_index new.words j ≡ slice_index old.words j

-- in each state that agrees with a solution of the care set each output of a whole instance has the bit of its handle
abbrev pub HasDrivenBits : Circuit → Phase → (ℕ → Bool) → H → Span → Diagrams → Diagrams → Type 0
HasDrivenBits c phase observed care roots old new =
    (v : Valuation) (setting : Setting) (a : ℕ → Option Bool) → function_of old care v ≡ true → IsSolvedAt c phase observed (root_at old roots v) setting a
    → (at : ℕ) (out : OutputPin) → At (output_pins c) at out → (s : State) → IsState c phase setting.inputs s → Agrees observed a s.reading
    → s.driven at ≡ root_at new roots v (length c.nets + at)

-- the handle with which a net begins: the constant of its known bit, or else that of its root
abbrev pub first_word : Option Bool → ℕ → ℕ
first_word None root = root
first_word (Some known) root = cond known 1 0

-- live handles of the roots, one for each net and behind these one for each output pin of the whole instances; a word for each
-- net; and the words of the nets of the greatest part; all apart
pub record HasCircuitSpans (c : Circuit) (parts : List Part) (roots gates out : Span) (d : Diagrams) : Type 0 where
  pub roots_span : IsSpan d roots
  pub roots_len : length c.nets + length (pins_of c) ≤ roots.len
  pub roots_live : IsFilled d roots
  pub gates_span : IsSpan d gates
  pub gates_len : gates.len ≡ length c.nets
  pub out_span : IsSpan d out
  pub room : (part : Part) → Among parts part → net_words (source_level c) * length part.nets ≤ out.len
  pub roots_gates : IsApart roots gates
  pub roots_out : IsApart roots out
  pub gates_out : IsApart gates out

-- in the care set, each solution gives the observed nets the bits of their handles and the outputs of whole instances theirs, and no
-- fault stands
pub record IsClearCircuit (c : Circuit) (phase : Phase) (observed : ℕ → Bool) (care : H) (roots gates : Span) (old new : Diagrams) : Type 0 where
  pub bits :
      (v : Valuation) (setting : Setting) (a : ℕ → Option Bool) → function_of old care v ≡ true → IsSolvedAt c phase observed (root_at old roots v) setting a
      → (n : ℕ) → observed n ≡ true → a n ≡ Some (shows new gates n v)
  pub clear :
      (v : Valuation) (setting : Setting) (a : ℕ → Option Bool) → function_of old care v ≡ true → IsSolvedAt c phase observed (root_at old roots v) setting a
      → (kind : FaultKind) (n : ℕ) → ¬ HasFault c phase observed setting a kind n
  pub driven : HasDrivenBits c phase observed care roots old new

-- ---- the search over steps

-- in the care set, each solution gives the observed nets the bits of their handles and the outputs of whole instances theirs, and no
-- fault stands at a place of the steps
pub record AreClearSteps (w : InPhase) (care : H) (roots gates : Span) (old new : Diagrams) : Type 0 where
  pub bits :
      (v : Valuation) (setting : Setting) (a : ℕ → Option Bool) → function_of old care v ≡ true
      → IsSolvedAt w.circuit (phase_of w) w.observed (root_at old roots v) setting a
      → (n : ℕ) → w.observed n ≡ true → a n ≡ Some (shows new gates n v)
  pub clear : IsClearOf (StandsAt w (root_at old roots)) (λ (v : CaseIn w (root_at old roots)). function_of old care v.valuation) (flat_map spots_of (steps_of w))
  pub driven : HasDrivenBits w.circuit (phase_of w) w.observed care roots old new

-- The first fault that stands anywhere in the care set, by the places of the steps. The handle is live, not that of the
-- constant 0, and says where: exactly there, for each solution, there is care and the fault stands.
pub record IsFirstFault (w : InPhase) (care : H) (roots : Span) (fault : CircuitFault) (old new : Diagrams) : Type 0 where
  pub kinds : (fault.kind ≡ Fight) ⊎ ((fault.kind ≡ Float) ⊎ (fault.kind ≡ Constraint))
  pub live : IsLive new fault.at
  pub some : fault.at.0 ≢ 0
  pub found :
      IsFoundIn (StandsAt w (root_at old roots)) (λ (v : CaseIn w (root_at old roots)). function_of old care v.valuation)
      (λ (v : CaseIn w (root_at old roots)). function_of new fault.at v.valuation)
      (flat_map spots_of (steps_of w)) (record { kind = fault.kind; at = fault.place })

-- no fault at a place of the steps, and then the circuit is clear in the store that is left; or the first fault
abbrev pub CircuitGives : InPhase → H → Span → Span → Diagrams → Diagrams → Option CircuitFault → Type 0
CircuitGives w care roots gates old new None =
    AreClearSteps w care roots gates old new × IsClearCircuit w.circuit (phase_of w) w.observed care roots gates new new
CircuitGives w care roots gates old new (Some fault) = IsFirstFault w care roots fault old new

-- ---- one step

-- where there is care and the lines of an instance's cell do not all hold
abbrev pub broken_of : Function → Function → Function
broken_of care held = λ v. cond (held v) false (care v)

-- a constraint is broken nowhere, or the handle says where
abbrev pub BrokenGives : Function → ℕ → Diagrams → Option CircuitFault → Type 0
BrokenGives broken at d None = (v : Valuation) → broken v ≡ false
BrokenGives broken at d (Some fault) = (fault.kind ≡ Constraint) × (fault.place ≡ at) × Means d fault.at broken × (fault.at.0 ≢ 0)

-- nodes were only added, and what is broken of an instance
abbrev pub InstanceGives : InPhase → FlatInstance → ℕ → H → Span → Diagrams → Diagrams → Option CircuitFault → Type 0
InstanceGives w i at care gates old new found =
    AddsNodes old new × BrokenGives (broken_of (function_of old care) (obliged_at old w.design w.rules i w.phase gates)) at new found

-- the first fault of a step
abbrev pub StepGives : InPhase → H → Span → Span → Diagrams → Diagrams → CircuitStep → Option CircuitFault → Type 0
StepGives w care roots gates old new (PartStep number) found =
    (part : Part) → At w.parts number part → PartGives w.circuit part w.observed care roots gates old new found
StepGives w care roots gates old new (InstanceStep at) found = (i : FlatInstance) → At w.circuit.instances at i → InstanceGives w i at care gates old new found
