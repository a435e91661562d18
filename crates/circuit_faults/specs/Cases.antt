-- Which faults stand at the places of the steps, in a case.
use Rattle.std.specs.Prelude.{ℕ, Bool}
use Rattle.bdd_core.specs.Diagram.{Valuation}
use Rattle.circuit_faults.specs.Faults.{HasFault, SolvedCase}
use Rattle.circuit_faults.specs.Steps.{InPhase, phase_of}
use Rattle.fault_places.specs.Searches.{Spot}
use Rattle.vrt_model.specs.Faults.{BreaksConstraint}
use Rattle.vrt_model.specs.Lists.{At}
use Rattle.vrt_model.specs.Reading.{Partial}
use Rattle.vrt_model.specs.State.{Setting}
use Rattle.vrt_model.specs.declared.circuit.FlatInstance.{FlatInstance}
use Rattle.vrt_model.specs.declared.verdict.FaultKind.{FaultKind}
use Rattle.vrt_model.specs.declared.verdict.FaultKind.TheVariants.{Fight, FightKept, Float, Unsettled, Constraint, Differs, Next, Apart, Enter}

-- a fault of this kind stands at a net, or at the instance of the circuit that has this number
abbrev pub HasStepFault : InPhase → Setting → Partial → FaultKind → ℕ → Type 0
HasStepFault w setting a Fight n = HasFault w.circuit (phase_of w) w.observed setting a Fight n
HasStepFault w setting a Float n = HasFault w.circuit (phase_of w) w.observed setting a Float n
HasStepFault w setting a Constraint at = (i : FlatInstance) × At w.circuit.instances at i × BreaksConstraint w.design w.rules w.phase a i
HasStepFault w setting a FightKept n = ⊥
HasStepFault w setting a Unsettled n = ⊥
HasStepFault w setting a Differs n = ⊥
HasStepFault w setting a Next n = ⊥
HasStepFault w setting a Apart n = ⊥
HasStepFault w setting a Enter n = ⊥

-- a valuation, with a setting and a solution of the circuit there
abbrev pub CaseIn : InPhase → (Valuation → ℕ → Bool) → Type 0
CaseIn w root = SolvedCase w.circuit (phase_of w) w.observed root

-- the fault stands at the place in such a case
abbrev pub StandsAt : (w : InPhase) (root : Valuation → ℕ → Bool) → Spot → CaseIn w root → Type 0
StandsAt w root x v = HasStepFault w v.setting v.solution x.kind x.at
