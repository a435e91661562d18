-- Circuits in which whole instances may stand, and steps over the parts with their outputs.
use Rattle.std.specs.Prelude.{◌≡◌, ◌≢◌, ℕ, ◌<◌, Bool, true, List, Option, None, Some, Result, IfOk, length}
use Rattle.node_pool.specs.declared.region.Span.{Span}
use Rattle.bdd_core.specs.Diagram.{Valuation}
use Rattle.bdd_core.specs.Store.{Diagrams}
use Rattle.bdd_core.specs.Words.{IsFilled, WritesTwo, shows, word_at}
use Rattle.bdd_core.specs.declared.handle.H.{H}
use Rattle.bdd_core.specs.declared.handle.Spent.{Spent}
use Rattle.bdd_ops.specs.Counting.{Counts, IsSpanWithin}
use Rattle.blif_eval.specs.declared.plan.ModelPlan.{ModelPlan}
use Rattle.channel_parts.specs.OneSolution.{AreDetermined}
use Rattle.channel_parts.specs.declared.part.Part.{Part}
use Rattle.circuit_faults.specs.Results.{StepGives, output_span}
use Rattle.circuit_faults.specs.Scans.{IsInside, PartGives, free_part}
use Rattle.circuit_faults.specs.Steps.{InPhase, IsInStepBefore, IsPartAt, phase_of}
use Rattle.circuit_faults.specs.declared.net.CircuitFault.{CircuitFault}
use Rattle.circuit_faults.specs.declared.steps.CircuitStep.{CircuitStep}
use Rattle.circuit_faults.specs.declared.steps.CircuitStep.TheVariants.{Part as PartStep, Instance as InstanceStep}
use Rattle.vrt_model.specs.Determined.{IsLinkedTo}
use Rattle.vrt_model.specs.Known.{IsPlain, IsUnknown}
use Rattle.vrt_model.specs.Lists.{At, Among}
use Rattle.vrt_model.specs.Networks.{HasRanges}
use Rattle.vrt_model.specs.State.{ModelGives, OutputPin, output_pins}
use Rattle.vrt_model.specs.declared.circuit.Circuit.{Circuit}
use Rattle.vrt_model.specs.declared.rules.Phase.{Phase}
use Rattle.vrt_model.specs.declared.whole.Whole.{Whole}
use Rattle.vrt_model.specs.declared.whole.WholePin.{WholePin}
use Rattle.whole_steps.specs.FreeOutputs.{IsFreeOutput}
use Rattle.whole_steps.specs.Tables.{IsOutput, IsWholeTable}
use Rattle.whole_steps.specs.declared.table.OutputPlace.{OutputPlace}

-- the numbers of a circuit are in range, and each output of a whole instance is at a plain net and follows from the observed inputs
-- that are linked to it
pub record HasSoundWholes (c : Circuit) (phase : Phase) (observed : ℕ → Bool) : Type 0 where
  pub ranges : HasRanges c
  pub determined : AreDetermined c phase observed

-- The net of a free output is alone in its part. The inputs that are linked to an output at a net of a part, where they are plain and
-- not known, are in parts of steps before that.
pub record AreOutputsOrdered (w : InPhase) : Type 0 where
  pub alone :
      (k at : ℕ) (part : Part) (out : OutputPin) (m : ℕ) → IsPartAt w k part → At (output_pins w.circuit) at out → IsFreeOutput w.circuit at out
      → IsInside part out.pin.net.0 → IsInside part m → m ≡ out.pin.net.0
  pub inputs :
      (k place : ℕ) (part : Part) (out : OutputPin) (input : WholePin) → IsPartAt w k part → Among (output_pins w.circuit) out → IsInside part out.pin.net.0
      → At out.whole.outputs place out.pin → Among out.whole.inputs input → IsLinkedTo (phase_of w) out.whole input place → w.observed input.net.0 ≡ true
      → IsPlain w.circuit input.net.0 → IsUnknown w.circuit (phase_of w) input.net.0 → IsInStepBefore w k input.net.0

-- a circuit in a phase with what is made of its whole instances: the outputs by net, and the orders of the models; the phase is there
-- where there is a whole instance
pub record IsReadyWholes (w : InPhase) (drivers : List (Option OutputPlace)) (plans : List ModelPlan) : Type 0 where
  pub wholes : HasSoundWholes w.circuit (phase_of w) w.observed
  pub table : IsWholeTable w.circuit drivers plans
  pub ordered : AreOutputsOrdered w
  pub phase : (x : Whole) → Among w.circuit.wholes x → w.phase < length w.rules.phases

-- ---- the outputs at a part

-- the words of these outputs have the bits that the models give them at the bits of the nets; those of other outputs stay
pub record OutputsGive (w : InPhase) (Written : ℕ → OutputPin → Type 0) (roots gates : Span) (old new : Diagrams) : Type 0 where
  pub bits :
      (at : ℕ) (out : OutputPin) → At (output_pins w.circuit) at out → Written at out → (v : Valuation)
      → ModelGives (phase_of w) out (λ n. shows old gates n v) (shows new (output_span w.circuit roots) at v)
  pub others :
      (at : ℕ) (out : OutputPin) → At (output_pins w.circuit) at out → (¬ Written at out)
      → word_at new (output_span w.circuit roots) at ≡ word_at old (output_span w.circuit roots) at

-- the handle of a net becomes that of an output at it; those of other nets stay
pub record IsCopied (c : Circuit) (place : OutputPlace) (n : ℕ) (roots gates : Span) (old new : Diagrams) : Type 0 where
  pub here : word_at new gates n ≡ word_at old (output_span c roots) place.number
  pub others : (k : ℕ) → k ≢ n → word_at new gates k ≡ word_at old gates k

-- the first fault of a part whose outputs have their bits; at a net of a free output none stands, and its handle is that of the output
abbrev pub SolvedGives : InPhase → H → Span → Span → Diagrams → Diagrams → Part → Option CircuitFault → Option OutputPlace → Type 0
SolvedGives w care roots gates old new part found None = PartGives w.circuit part w.observed care roots gates old new found
SolvedGives w care roots gates old new part found (Some place) =
    (found ≡ None) × ((out : OutputPin) → IsOutput w.circuit (output_pins w.circuit) place out → IsCopied w.circuit place out.pin.net.0 roots gates old new)

-- the outputs at a part get their bits, and then it is looked through
pub record DrivenGives (w : InPhase) (drivers : List (Option OutputPlace)) (care : H) (roots gates out : Span) (old new : Diagrams) (part : Part) (found : Option CircuitFault) : Type 0 where
  pub mid : Diagrams
  pub first : WritesTwo (output_span w.circuit roots) out old mid
  pub live : IsFilled mid roots
  pub outputs : OutputsGive w (λ at o. IsInside part o.pin.net.0) roots gates old mid
  pub second : WritesTwo gates out mid new
  pub solved : SolvedGives w care roots gates mid new part found (free_part drivers part)

-- the first fault of a step
abbrev pub WiredGives : List (Option OutputPlace) → InPhase → H → Span → Span → Span → Diagrams → Diagrams → CircuitStep → Option CircuitFault → Type 0
WiredGives drivers w care roots gates out old new (PartStep number) found =
    (part : Part) → At w.parts number part → DrivenGives w drivers care roots gates out old new part found
WiredGives drivers w care roots gates out old new (InstanceStep at) found = StepGives w care roots gates old new (InstanceStep at) found

-- ---- operations

-- at most so many operations; where they were not refused, the handles of two spans read only the first u variables
pub record SpendsWired {A : Type 0} (u operations : ℕ) (gates roots : Span) (old new : Diagrams) (result : Result A Spent) : Type 0 where
  pub counts : Counts u operations old new result
  pub within : IfOk result (λ _. IsSpanWithin u new gates × IsSpanWithin u new roots)
