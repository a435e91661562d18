use Rattle.std.proofs.Common.{ℕ, ◌+◌, ◌≤◌, Bool, [], Option, None, Err, All, ap, arith, length, refl, subst, sym}
use Rattle.bdd_ops.specs.Counting.{Counts, IsCounted}
use Rattle.channel_parts.specs.OneSolution.{AreObserved}
use Rattle.circuit_faults.proofs.ThreeSpans.{outputs_count}
use Rattle.circuit_faults.specs.Results.{CircuitGives, IsFirstFault}
use Rattle.circuit_faults.specs.Steps.{AreOrderedSteps, InPhase, IsReadyInstance, in_comparison}
use Rattle.circuit_faults.specs.Operations.{steps_operations}
use Rattle.circuit_faults.specs.Wholes.{IsReadyWholes}
use Rattle.circuit_faults.specs.declared.net.CircuitFault.{CircuitFault}
use Rattle.phase_check.proofs.Cases.{model_of}
use Rattle.phase_check.proofs.Ends.{phased_is, seen_is}
use Rattle.phase_check.proofs.InstanceSeen.{instances_ready}
use Rattle.phase_laws.proofs.Observed.{observed_nets}
use Rattle.phase_check.proofs.Spans.{held_gates, held_out, held_roots, inputs_gates, inputs_out, inputs_roots, roots_gates, roots_out}
use Rattle.phase_check.proofs.Stays.{opened_searched, roots_three, searched_more, stays_three, store_next}
use Rattle.phase_check.proofs.StepStage.{model_room, ordered, spans_there, step_fault, steps_clear, wholes_ready}
use Rattle.phase_laws.proofs.Work.{filled_within, live_within, may_spend}
use Rattle.phase_terms.specs.Plans.{step_spots}
use Rattle.phase_terms.specs.Ready.{comparison_in}
use Rattle.phase_terms.specs.Stores.{counts_of}
use Rattle.vrt_model.specs.Comparison.{is_observed}
use Rattle.vrt_model.specs.Held.{sources_of}
use Rattle.vrt_model.specs.Lists.{mark_at}
use Rattle.vrt_model.specs.State.{output_pins}
use Rattle.phase_check.proofs.bare.solve_bare.Goals as goal

pub wired_fault-requires-clause-steps : goal.wired_fault-requires-clause-steps
wired_fault-requires-clause-steps c =
    let k = comparison_in c.args.search.compared in
    let phase = c.args.search.phase in
    let plan = c.args.search.plan.now in
    let same = phased_is k phase plan c.requires.search.ready c.requires.search.planned c.as_slice-marks.result.now c.as_slice-steps.result.now c.as_slice-marks.ensures.value c.as_slice-steps.ensures in
    subst (λ (w : InPhase). AreOrderedSteps w) (sym same) (ordered k phase plan c.requires.search.ready c.requires.search.there c.requires.search.planned)

pub wired_fault-requires-clause-wholes : goal.wired_fault-requires-clause-wholes
wired_fault-requires-clause-wholes c =
    let k = comparison_in c.args.search.compared in
    let phase = c.args.search.phase in
    let plan = c.args.search.plan.now in
    let drivers = c.args.search.compared.wholes.drivers.now in
    let plans = c.args.search.compared.wholes.plans.now in
    let same = phased_is k phase plan c.requires.search.ready c.requires.search.planned c.as_slice-marks.result.now c.as_slice-steps.result.now c.as_slice-marks.ensures.value c.as_slice-steps.ensures in
    subst (λ (w : InPhase). IsReadyWholes w drivers plans) (sym same) (wholes_ready k phase plan c.requires.search.ready c.requires.search.there c.requires.search.planned drivers plans c.requires.wholes)

pub wired_fault-requires-clause-room : goal.wired_fault-requires-clause-room
wired_fault-requires-clause-room c =
    let k = comparison_in c.args.search.compared in
    model_room k c.args.search.words c.args.store.now c.requires.opened.1.store.words

pub wired_fault-requires-clause-instances : goal.wired_fault-requires-clause-instances
wired_fault-requires-clause-instances c =
    let k = comparison_in c.args.search.compared in
    let phase = c.args.search.phase in
    let plan = c.args.search.plan.now in
    let same = phased_is k phase plan c.requires.search.ready c.requires.search.planned c.as_slice-marks.result.now c.as_slice-steps.result.now c.as_slice-marks.ensures.value c.as_slice-steps.ensures in
    subst (λ (w : InPhase). All (IsReadyInstance w) k.circuit.instances) (sym same) (instances_ready k phase c.requires.search.ready plan.parts plan.steps)

pub wired_fault-requires-clause-observed : goal.wired_fault-requires-clause-observed
wired_fault-requires-clause-observed c =
    let k = comparison_in c.args.search.compared in
    let phase = c.args.search.phase in
    let same = seen_is k phase c.args.search.plan.now c.requires.search.ready c.requires.search.planned c.as_slice-marks.result.now c.as_slice-marks.ensures.value in
    subst (λ (o : ℕ → Bool). AreObserved k.circuit o) (sym same) (observed_nets k phase c.requires.search.ready).0

pub wired_fault-requires-clause-spans : goal.wired_fault-requires-clause-spans
wired_fault-requires-clause-spans c =
    let k = comparison_in c.args.search.compared in
    let s = c.requires.opened.1 in
    spans_there k c.args.search.phase c.args.search.plan.now c.requires.search.ready c.requires.search.there c.requires.search.planned c.args.search.words c.args.store.now c.args.search.care s.store.words s.opened

pub returns-in-Ok-None-clause-gives : goal.returns-in-Ok-None-clause-gives
returns-in-Ok-None-clause-gives c made opened =
    let k = comparison_in c.args.search.compared in
    let phase = c.args.search.phase in
    let plan = c.args.search.plan.now in
    let words = c.args.search.words in
    let care = c.args.search.care in
    let d = c.args.store.now in
    let new = c.wired_fault.new.store in
    let sound = c.sound.ensures.sound in
    let s = opened_searched k phase d.budget made care words d opened sound c.sound.ensures.canonical c.requires.some in
    let h = s.store.words in
    let writes = c.in-Ok-None.ensures.writes in
    let u : ℕ = length (sources_of k phase) in
    let operations : ℕ = made in
    let here = in_comparison k phase plan.parts c.as_slice-steps.result.now (mark_at c.as_slice-marks.result.now) in
    let there = in_comparison k phase plan.parts plan.steps (is_observed k phase) in
    let same = phased_is k phase plan c.requires.search.ready c.requires.search.planned c.as_slice-marks.result.now c.as_slice-steps.result.now c.as_slice-marks.ensures.value c.as_slice-steps.ensures in
    let gives = subst (λ (o : Option CircuitFault). CircuitGives here care words.roots words.gates d new o) c.in-Ok-None.field-0-is (c.in-Ok-None.ensures.gives s.opened.roots.fixed) in
    let none : CircuitGives there care words.roots words.gates d new None = subst (λ (w : InPhase). CircuitGives w care words.roots words.gates d new None) same gives in
    let counted_here : IsCounted u (steps_operations here) d new =
    (c.in-Ok-None.ensures.few c.requires.search.ready.circuit.one_hold u (live_within d.budget u operations d care s.store.used sound s.opened.care_live)
    (filled_within d.budget u operations d words.roots s.store.used sound s.opened.roots.live)).counts.added in
    let counted : IsCounted u (steps_operations there) d new = subst (λ (w : InPhase). IsCounted u (steps_operations w) d new) same counted_here in
    let fits : length k.circuit.nets + length (output_pins k.circuit) ≤ words.roots.len = (let len = h.roots_len in let same = outputs_count k.circuit in omega (arith, len, same)) in
    record {
      searched = searched_more k phase d.budget operations (steps_operations there) words d new writes.adds writes.len counted c.requires.search.ready care [] (step_spots plan)
          (roots_three k.circuit words.roots words.gates words.out d new writes c.in-Ok-None.ensures.roots (let len = h.roots_len in omega (arith, len)) (roots_gates (counts_of k d.vars) words d h) (roots_out (counts_of k d.vars) words d h))
          (stays_three k.circuit words.roots words.gates words.out words.inputs d new writes fits (inputs_roots (counts_of k d.vars) words d h) (inputs_gates (counts_of k d.vars) words d h) (inputs_out (counts_of k d.vars) words d h))
          (stays_three k.circuit words.roots words.gates words.out words.held d new writes fits (held_roots (counts_of k d.vars) words d h) (held_gates (counts_of k d.vars) words d h) (held_out (counts_of k d.vars) words d h))
          s (steps_clear k phase plan c.requires.search.ready c.requires.search.there c.requires.search.planned care words d s.opened new none.0);
      solved = record { live = c.in-Ok-None.ensures.live; circuit = none.1 };
    }

pub returns-in-Err-clause-gives : goal.returns-in-Err-clause-gives
returns-in-Err-clause-gives c made opened =
    let k = comparison_in c.args.search.compared in
    let phase = c.args.search.phase in
    let plan = c.args.search.plan.now in
    let words = c.args.search.words in
    let care = c.args.search.care in
    let d = c.args.store.now in
    let new = c.wired_fault.new.store in
    let sound = c.sound.ensures.sound in
    let s = opened_searched k phase d.budget made care words d opened sound c.sound.ensures.canonical c.requires.some in
    let u : ℕ = length (sources_of k phase) in
    let operations : ℕ = made in
    let here = in_comparison k phase plan.parts c.as_slice-steps.result.now (mark_at c.as_slice-marks.result.now) in
    let there = in_comparison k phase plan.parts plan.steps (is_observed k phase) in
    let same = phased_is k phase plan c.requires.search.ready c.requires.search.planned c.as_slice-marks.result.now c.as_slice-steps.result.now c.as_slice-marks.ensures.value c.as_slice-steps.ensures in
    let counts : Counts {A = Option CircuitFault} u (steps_operations here) d new (Err c.in-Err.spent) =
    (c.in-Err.ensures.few c.requires.search.ready.circuit.one_hold u (live_within d.budget u operations d care s.store.used sound s.opened.care_live)
    (filled_within d.budget u operations d words.roots s.store.used sound s.opened.roots.live)).counts in
    may_spend k phase d.budget u operations (steps_operations there) (operations + steps_operations there) d new c.in-Err.spent s.store.used refl c.requires.budget (omega arith)
    (subst (λ (w : InPhase). Counts {A = Option CircuitFault} u (steps_operations w) d new (Err c.in-Err.spent)) same counts)

pub returns-in-Ok-Some-clause-gives : goal.returns-in-Ok-Some-clause-gives
returns-in-Ok-Some-clause-gives c made opened =
    let k = comparison_in c.args.search.compared in
    let phase = c.args.search.phase in
    let plan = c.args.search.plan.now in
    let words = c.args.search.words in
    let care = c.args.search.care in
    let d = c.args.store.now in
    let new = c.wired_fault.new.store in
    let sound = c.sound.ensures.sound in
    let s = opened_searched k phase d.budget made care words d opened sound c.sound.ensures.canonical c.requires.some in
    let writes = c.in-Ok-Some.ensures.writes in
    let u : ℕ = length (sources_of k phase) in
    let operations : ℕ = made in
    let fault = c.in-Ok-Some.fault in
    let here = in_comparison k phase plan.parts c.as_slice-steps.result.now (mark_at c.as_slice-marks.result.now) in
    let there = in_comparison k phase plan.parts plan.steps (is_observed k phase) in
    let same = phased_is k phase plan c.requires.search.ready c.requires.search.planned c.as_slice-marks.result.now c.as_slice-steps.result.now c.as_slice-marks.ensures.value c.as_slice-steps.ensures in
    let gives = subst (λ (o : Option CircuitFault). CircuitGives here care words.roots words.gates d new o) c.in-Ok-Some.field-0-is (c.in-Ok-Some.ensures.gives s.opened.roots.fixed) in
    let first : IsFirstFault there care words.roots fault d new = subst (λ (w : InPhase). IsFirstFault w care words.roots fault d new) same gives in
    let counted : IsCounted u (steps_operations here) d new =
    (c.in-Ok-Some.ensures.few c.requires.search.ready.circuit.one_hold u (live_within d.budget u operations d care s.store.used sound s.opened.care_live)
    (filled_within d.budget u operations d words.roots s.store.used sound s.opened.roots.live)).counts.added in
    step_fault k phase plan c.requires.search.ready c.requires.search.there c.requires.search.planned care words d s.opened (model_of k phase plan words d care c.requires.search.ready c.requires.search.planned s.opened)
    new.budget (operations + steps_operations here) new fault
    (store_next k phase d.budget operations (steps_operations here) words d new writes.adds writes.len counted s.store) writes.adds.sound first
