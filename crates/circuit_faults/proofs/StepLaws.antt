-- One step more, a part or an instance; and its operations.
use Rattle.std.proofs.Common.{◌≡◌, ℕ, ◌+◌, ◌<◌, ◌≤◌, Err, IfOk, List, Ok, Option, Result, Some, None, arith, length, ap, refl, sym, ◌∙◌}
use Rattle.std.specs.Prelude.{All, option_map, unwrap_or}
use Rattle.std.proofs.lemmas.Option.{none-some}
use Rattle.blif_eval.specs.declared.plan.ModelPlan.{ModelPlan}
use Rattle.node_pool.specs.declared.region.Span.{Span}
use Rattle.bdd_core.specs.Diagram.{Valuation, meaning}
use Rattle.bdd_core.specs.Store.{Diagrams, IsLive}
use Rattle.bdd_core.proofs.Frames.{two_filled, two_word}
use Rattle.bdd_core.specs.Words.{IsFilled, WritesTwo, word_at}
use Rattle.bdd_core.specs.declared.handle.H.{H}
use Rattle.channel_parts.specs.OneSolution.{AreObserved}
use Rattle.channel_parts.specs.declared.part.Part.{Part}
use Rattle.circuit_faults.proofs.CircuitLaws.{AreDrivenAt, IsSolvedBefore, part_clear_next, part_fault_first, spans_kept}
use Rattle.circuit_faults.proofs.InstanceLaws.{instance_clear_next, instance_fault_first}
use Rattle.circuit_faults.proofs.FreeParts.{free_here}
use Rattle.circuit_faults.proofs.OutputSteps.{output_next}
use Rattle.circuit_faults.proofs.PinSteps.{driven_here, outputs_next}
use Rattle.circuit_faults.proofs.ThreeSpans.{apart_outputs, roots_fit, three_first, three_then}
use Rattle.circuit_faults.specs.Faults.{HasFixedBits}
use Rattle.circuit_faults.specs.Operations.{instance_operations, part_operations, step_operations}
use Rattle.circuit_faults.specs.Results.{HasCircuitSpans, IsFirstFault, WritesThree, output_span, root_at}
use Rattle.circuit_faults.specs.Scans.{IsInside, free_part}
use Rattle.circuit_faults.specs.Steps.{AreOrderedSteps, InPhase, IsPartAt, IsReadyInstance, phase_of}
use Rattle.circuit_faults.specs.Wholes.{IsReadyWholes, OutputsGive, SolvedGives, WiredGives}
use Rattle.circuit_faults.specs.declared.net.CircuitFault.{CircuitFault}
use Rattle.circuit_faults.specs.declared.steps.CircuitStep.{CircuitStep}
use Rattle.circuit_faults.specs.declared.steps.CircuitStep.TheVariants.{Part as PartStep, Instance as InstanceStep}
use Rattle.vrt_model.proofs.Lists.{at_there}
use Rattle.vrt_model.proofs.Members.{all_among}
use Rattle.vrt_model.specs.Lists.{At}
use Rattle.vrt_model.specs.State.{output_pins}
use Rattle.vrt_model.specs.declared.circuit.FlatInstance.{FlatInstance}
use Rattle.whole_steps.specs.declared.table.OutputPlace.{OutputPlace}

-- what holds of each value holds of that of a result
pub if_ok_all : {A B : Type 0} (P : A → Type 0) (r : Result A B) → ((x : A) → P x) → IfOk r P
if_ok_all P (Ok x) all = all x
if_ok_all P (Err e) all = tt

-- ---- operations

pub part_step_operations : (w : InPhase) (number : ℕ) (part : Part) → At w.parts number part → step_operations w (PartStep number) ≡ part_operations w.circuit part
part_step_operations w number part e = ap (λ (o : Option Part). unwrap_or (option_map (part_operations w.circuit) o) 0) e

pub instance_step_operations : (w : InPhase) (at : ℕ) (i : FlatInstance) → At w.circuit.instances at i → step_operations w (InstanceStep at) ≡ instance_operations w i
instance_step_operations w at i e = ap (λ (o : Option FlatInstance). unwrap_or (option_map (instance_operations w) o) 0) e

-- ---- one step more

module _ (w : InPhase) (drivers : List (Option OutputPlace)) (plans : List ModelPlan) (wired : IsReadyWholes w drivers plans) (care : H) (roots gates out : Span)
    (seen : AreObserved w.circuit w.observed) (are : AreOrderedSteps w)
    (ready : All (IsReadyInstance w) w.circuit.instances) (first : Diagrams) (spans : HasCircuitSpans w.circuit w.parts roots gates out first)
    (care_live : IsLive first care) (fixed : (v : Valuation) → HasFixedBits w.circuit (phase_of w) (root_at first roots v))
    (k : ℕ) (now new : Diagrams) (before : WritesThree (output_span w.circuit roots) gates out first now) (live : IsFilled now gates) (roots_live : IsFilled now roots)
    (solved : IsSolvedBefore w care roots gates k first now) where
  fits : length w.circuit.nets + length (output_pins w.circuit) ≤ roots.len
  fits = roots_fit w.circuit w.parts roots gates out first spans

  spans_now : HasCircuitSpans w.circuit w.parts roots gates out now
  spans_now = spans_kept w.circuit w.parts roots gates out first now before roots_live spans

  -- a part: its outputs get their bits, and it is looked through
  module _ (part : Part) (here : IsPartAt w k part) (mid : Diagrams) (writes : WritesTwo (output_span w.circuit roots) out now mid) (mid_live : IsFilled mid roots)
      (gives : OutputsGive w (λ at o. IsInside part o.pin.net.0) roots gates now mid) (after : WritesTwo gates out mid new) where
    so_far : WritesThree (output_span w.circuit roots) gates out first mid
    so_far = three_then (output_span w.circuit roots) gates out first now mid before (three_first (output_span w.circuit roots) gates out now mid writes)

    gates_live : IsFilled mid gates
    gates_live = two_filled (output_span w.circuit roots) out gates now mid writes (apart_outputs w.circuit roots gates fits spans.roots_gates) spans.gates_out live

    solved_mid : IsSolvedBefore w care roots gates k first mid
    solved_mid = outputs_next w care roots gates out wired.wholes seen are wired.ordered first k part here now mid fits spans_now live solved writes gives

    driven_mid : AreDrivenAt w care roots part first mid
    driven_mid v setting a met at number o e inside s is agrees =
        driven_here w care roots gates out wired.wholes seen are wired.ordered first k part here now mid fits spans_now live solved writes gives v setting a met at number o e inside s is agrees

    kept : (h : ℕ) (v : Valuation) → h < length mid.nodes → meaning new.nodes h v ≡ meaning mid.nodes h v
    kept h v lt = after.adds.kept h lt v

    -- the outputs keep their bits
    outputs_stay : (n : ℕ) (v : Valuation) → n < length (output_pins w.circuit) → root_at new roots v (length w.circuit.nets + n) ≡ root_at mid roots v (length w.circuit.nets + n)
    outputs_stay n v lt =
        let within : length w.circuit.nets + n < roots.len = omega (arith, lt, fits) in
        ap (λ (h : ℕ). meaning new.nodes h v) (two_word gates out roots mid new after spans.roots_gates spans.roots_out (length w.circuit.nets + n) within)
        ∙ after.adds.kept (word_at mid roots (length w.circuit.nets + n)) (mid_live (length w.circuit.nets + n) within) v

    -- a part with a free output, or another
    solved_clear : (o : Option OutputPlace) → free_part drivers part ≡ o → SolvedGives w care roots gates mid new part None o → IsSolvedBefore w care roots gates (k + 1) first new
    solved_clear None e found =
        part_clear_next w care roots gates out wired.wholes seen are first spans care_live fixed k part here mid new so_far gates_live solved_mid driven_mid found outputs_stay kept
    solved_clear (Some place) e found =
        let there = free_here w.circuit drivers wired.table.outputs part (are.each part (here.0, here.2)).plain place e in
        output_next w care roots gates wired.wholes seen wired.ordered spans.gates_len fits k part here place there.0 there.1.number there.2 (0, (there.0.pin.net, there.3, refl)) first mid new
        solved_mid driven_mid gates_live mid_live fixed (found.1 there.0 there.1) kept outputs_stay

    solved_fault : (fault : CircuitFault) (o : Option OutputPlace) → free_part drivers part ≡ o → SolvedGives w care roots gates mid new part (Some fault) o → IsFirstFault w care roots fault first new
    solved_fault fault None e found =
        part_fault_first w care roots gates out wired.wholes seen are first spans care_live fixed k part here mid new so_far gates_live solved_mid driven_mid fault found
    solved_fault fault (Some place) e found = absurd (none-some fault (sym found.0))

  pub step_clear : (step : CircuitStep) → At w.steps k step → WiredGives drivers w care roots gates out now new step None → IsSolvedBefore w care roots gates (k + 1) first new
  step_clear (PartStep number) here gives =
      let part = at_there w.parts number (are.there k (PartStep number) here) in
      let g = gives part.0 part.1 in
      solved_clear part.0 (number, here, part.1) g.mid g.first g.live g.outputs g.second (free_part drivers part.0) refl g.solved
  step_clear (InstanceStep at) here gives =
      let i = at_there w.circuit.instances at (are.there k (InstanceStep at) here) in
      let found = gives i.0 i.1 in
      instance_clear_next w care roots gates wired.wholes seen are spans.roots_len spans.gates_len k at i.0 (here, i.1) (all_among (IsReadyInstance w) w.circuit.instances i.0 ready (at, i.1))
      first now new solved live (λ v. before.adds.kept care.0 care_live v) fits roots_live found.0 found.1

  pub step_fault : (step : CircuitStep) → At w.steps k step → (fault : CircuitFault) → WiredGives drivers w care roots gates out now new step (Some fault) → IsFirstFault w care roots fault first new
  step_fault (PartStep number) here fault gives =
      let part = at_there w.parts number (are.there k (PartStep number) here) in
      let g = gives part.0 part.1 in
      solved_fault part.0 (number, here, part.1) g.mid g.first g.live g.outputs g.second fault (free_part drivers part.0) refl g.solved
  step_fault (InstanceStep at) here fault gives =
      let i = at_there w.circuit.instances at (are.there k (InstanceStep at) here) in
      let found = gives i.0 i.1 in
      instance_fault_first w care roots gates wired.wholes seen are spans.roots_len spans.gates_len k at i.0 (here, i.1) (all_among (IsReadyInstance w) w.circuit.instances i.0 ready (at, i.1))
      first now new solved live (λ v. before.adds.kept care.0 care_live v) fault found.1
