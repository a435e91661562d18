-- The plan of a phase from what is made for it.
use Rattle.std.proofs.Common.{◌≡◌, ℕ, ◌<◌, false, true, length}
use Rattle.channel_parts.specs.PartLists.{IsPartList}
use Rattle.known_nets.specs.Wired.{IsWired}
use Rattle.phase_plan.specs.Gives.{HasModelPlan, HasWishes}
use Rattle.phase_terms.specs.Plans.{AreCircuitSteps, IsPhasePlan}
use Rattle.phase_terms.specs.Ready.{IsReady}
use Rattle.phase_terms.specs.declared.plan.PhasePlan.{PhasePlan}
use Rattle.vrt_model.specs.Comparison.{Comparison, is_observed, phase_at}
use Rattle.vrt_model.specs.Lists.{mark_at}

-- the outputs of the whole instances of a circuit that is looked through are at plain nets
pub ready_wired : (k : Comparison) (phase : ℕ) → IsReady k → phase < length k.rules.phases → IsWired k.circuit
ready_wired k phase ready range = record {
  ranges = (ready.wholes phase range).ranges;
  outputs = λ w pin m out. ((ready.wholes phase range).determined w m).plain pin out;
}

pub planned : (k : Comparison) (phase : ℕ) (plan : PhasePlan) → IsPartList k.circuit (phase_at k.rules phase) true plan.parts → IsPartList k.circuit (phase_at k.rules phase) false plan.kept
    → AreCircuitSteps k phase plan.parts plan.steps → HasModelPlan k phase plan.model → length plan.observed.items ≡ length k.circuit.nets
    → ((n : ℕ) → mark_at plan.observed.items n ≡ is_observed k phase n) → HasWishes k phase plan.wishes → IsPhasePlan k phase plan
planned k phase plan parts kept steps model marks observed wishes = record {
  parts = parts;
  kept = kept;
  steps = steps;
  known = model.known;
  carried = model.carried;
  model = model.plan;
  marks = marks;
  observed = observed;
  wishes = wishes.are;
  there = wishes.there;
  few = wishes.few;
}
