use Rattle.std.proofs.Common.{◌≡◌, ℕ, ◌+◌, ◌<◌, Bool, List, Option, Err, Ok, Some, None, take, length, ap, arith, subst, sym, ◌∙◌}
use Rattle.std.specs.Prelude.{sum_by}
use Rattle.std.proofs.lemmas.List.Sums.{sum_by-take-le}
use Rattle.bdd_core.specs.Store.{Diagrams, function_of}
use Rattle.bdd_core.specs.Words.{word_at}
use Rattle.bdd_ops.proofs.CountingLaws.{counted_more, counted_same, counted_then, counts_ok}
use Rattle.bdd_ops.proofs.WithinLaws.{within_same}
use Rattle.circuit_faults.proofs.CircuitLaws.{IsSolvedBefore, clear_circuit, solved_all, solved_none, spans_kept}
use Rattle.circuit_faults.proofs.ClearHere.{clear_here}
use Rattle.circuit_faults.proofs.CountLaws.{opened_within, reads_variables, sum_next, used_counted}
use Rattle.circuit_faults.proofs.StepLaws.{step_clear, step_fault}
use Rattle.circuit_faults.proofs.ThreeSpans.{three_second, three_then}
use Rattle.circuit_faults.proofs.WiredWork.{wired_gates}
use Rattle.bdd_core.proofs.Frames.{filled_beside, two_first}
use Rattle.circuit_faults.specs.Results.{AreClearSteps, first_word, output_span}
use Rattle.circuit_faults.specs.Steps.{InPhase, in_phase, phase_of}
use Rattle.circuit_faults.specs.Wholes.{WiredGives}
use Rattle.circuit_faults.specs.Operations.{step_operations, steps_operations}
use Rattle.circuit_faults.specs.declared.net.CircuitFault.{CircuitFault}
use Rattle.circuit_faults.specs.declared.steps.CircuitStep.{CircuitStep}
use Rattle.known_nets.specs.KnownTables.{known_at}
use Rattle.path_fixpoint.proofs.SpendingLaws.{span_beside, spends_behind, spends_more, spends_value}
use Rattle.circuit_faults.proofs.circuit.wired_fault.Goals as goal

pub loop-place-init : goal.loop-place-init
loop-place-init c =
    let w : InPhase = in_phase c.args.phased in
    let spans = c.args.spans in
    let old = c.args.store.now in
    let new = c.write_first_handles.new.store in
    let opened : (n : ℕ) → n < spans.gates.len → word_at new spans.gates n ≡ first_word (known_at w.known n) (word_at old spans.roots n) =
    subst (λ (known : List (Option Bool)). (n : ℕ) → n < spans.gates.len → word_at new spans.gates n ≡ first_word (known_at known n) (word_at old spans.roots n)) c.as_slice.ensures c.write_first_handles.ensures.first in
    record {
      writes = three_second (output_span w.circuit spans.roots) spans.gates spans.out old new (two_first spans.gates spans.out old new c.write_first_handles.ensures.writes);
      live = c.write_first_handles.ensures.writes.live;
      roots = filled_beside spans.gates spans.roots old new c.write_first_handles.ensures.writes c.requires.spans.roots_gates c.requires.spans.roots_live;
      solved = λ fixed.
          solved_none w c.args.care spans.roots spans.gates c.requires.wholes.wholes c.requires.observed c.requires.steps c.requires.spans.roots_len c.requires.spans.gates_len old new
          c.requires.spans.roots_live c.write_first_handles.ensures.writes fixed opened;
      counted = λ one u care roots.
          let rest = c.write_first_handles.ensures.rest in
          let nodes : new.nodes ≡ old.nodes = ap (λ (d : Diagrams). d.nodes) rest in (
            counted_same u old new (ap (λ (d : Diagrams). d.budget) rest) nodes,
            (
              opened_within u spans.roots spans.gates (known_at w.known) old new (omega (arith, c.requires.spans.gates_len, c.requires.spans.roots_len)) nodes opened roots,
              span_beside u spans.gates spans.roots old new c.write_first_handles.ensures.writes c.requires.spans.roots_gates c.requires.spans.roots_live roots,
            ),
          );
    }

pub write_first_handles-requires-clause-len : goal.write_first_handles-requires-clause-len
write_first_handles-requires-clause-len c =
    let known : length c.as_slice.result.now ≡ length c.args.phased.parts.now.known = ap (λ (xs : List (Option Bool)). length xs) c.as_slice.ensures in
    (known ∙ c.requires.steps.count ∙ sym c.requires.spans.gates_len, omega (arith, c.requires.spans.gates_len, c.requires.spans.roots_len))

pub check_step-requires-clause-there : goal.check_step-requires-clause-there
check_step-requires-clause-there c = c.requires.steps.there c.loop-place.place c.step_at-step.result c.step_at-step.ensures

pub check_step-requires-clause-care : goal.check_step-requires-clause-care
check_step-requires-clause-care c = omega (arith, c.requires.care, c.loop-place.invariant.writes.adds.longer)

pub check_step-requires-clause-spans : goal.check_step-requires-clause-spans
check_step-requires-clause-spans c =
    spans_kept c.args.phased.circuit.now c.args.phased.parts.now.list c.args.spans.roots c.args.spans.gates c.args.spans.out c.args.store.now c.loop-place.store
    c.loop-place.invariant.writes c.loop-place.invariant.roots c.requires.spans

pub returns-in-Err-clause-writes : goal.returns-in-Err-clause-writes
returns-in-Err-clause-writes c =
    three_then (output_span c.args.phased.circuit.now c.args.spans.roots) c.args.spans.gates c.args.spans.out c.args.store.now c.loop-place.store c.check_step.new.store c.loop-place.invariant.writes c.check_step.ensures.writes

pub returns-in-Some-clause-writes : goal.returns-in-Some-clause-writes
returns-in-Some-clause-writes c =
    three_then (output_span c.args.phased.circuit.now c.args.spans.roots) c.args.spans.gates c.args.spans.out c.args.store.now c.loop-place.store c.check_step.new.store c.loop-place.invariant.writes c.check_step.ensures.writes

pub returns-in-Some-clause-gives : goal.returns-in-Some-clause-gives
returns-in-Some-clause-gives c fixed =
    let w : InPhase = in_phase c.args.phased in
    let spans = c.args.spans in
    let step : CircuitStep = c.step_at-step.result in
    let gives : WiredGives c.args.wholes.drivers.now w c.args.care spans.roots spans.gates spans.out c.loop-place.store c.check_step.new.store step (Some c.in-Some.fault) =
    subst (λ (o : Option CircuitFault). WiredGives c.args.wholes.drivers.now w c.args.care spans.roots spans.gates spans.out c.loop-place.store c.check_step.new.store step o) c.in-Some.is c.in-Ok.ensures.gives in
    step_fault w c.args.wholes.drivers.now c.args.wholes.plans.now c.requires.wholes c.args.care spans.roots spans.gates spans.out c.requires.observed c.requires.steps c.requires.instances c.args.store.now c.requires.spans c.requires.care fixed
    c.loop-place.place c.loop-place.store c.check_step.new.store c.loop-place.invariant.writes c.loop-place.invariant.live c.loop-place.invariant.roots (c.loop-place.invariant.solved fixed)
    step c.step_at-step.ensures c.in-Some.fault gives

pub loop-place-preserved : goal.loop-place-preserved
loop-place-preserved c =
    let w : InPhase = in_phase c.args.phased in
    let spans = c.args.spans in
    let first = c.args.store.now in
    let old = c.loop-place.store in
    let new = c.check_step.new.store in
    let k = c.loop-place.place in
    let step : CircuitStep = c.step_at-step.result in
    let gives : WiredGives c.args.wholes.drivers.now w c.args.care spans.roots spans.gates spans.out old new step None =
    subst (λ (o : Option CircuitFault). WiredGives c.args.wholes.drivers.now w c.args.care spans.roots spans.gates spans.out old new step o) c.in_default.is c.in-Ok.ensures.gives in
    record {
      writes = three_then (output_span w.circuit spans.roots) spans.gates spans.out first old new c.loop-place.invariant.writes c.check_step.ensures.writes;
      live = c.check_step.ensures.live;
      roots = c.check_step.ensures.roots;
      solved = λ fixed.
          step_clear w c.args.wholes.drivers.now c.args.wholes.plans.now c.requires.wholes c.args.care spans.roots spans.gates spans.out c.requires.observed c.requires.steps c.requires.instances first c.requires.spans c.requires.care fixed
          k old new c.loop-place.invariant.writes c.loop-place.invariant.live c.loop-place.invariant.roots (c.loop-place.invariant.solved fixed)
          step c.step_at-step.ensures gives;
      counted = λ one u care roots.
          let before = c.loop-place.invariant.counted one u care roots in
          let now = c.in-Ok.ensures.few one u (within_same u (function_of first c.args.care) (function_of old c.args.care) (c.loop-place.invariant.writes.adds.kept c.args.care.0 c.requires.care) care) before.1.0 before.1.1 in
          let sums = sum_next (step_operations w) w.steps k step c.step_at-step.ensures in (
            counted_more u (sum_by (step_operations w) (take k w.steps) + step_operations w step) (sum_by (step_operations w) (take (k + 1) w.steps)) first new (omega (arith, sums))
                (counted_then u (sum_by (step_operations w) (take k w.steps)) (step_operations w step) first old new before.0 now.counts.added),
            (now.within.0, now.within.1),
          );
    }

pub returns-clause-gives : goal.returns-clause-gives
returns-clause-gives c fixed =
    let w : InPhase = in_phase c.args.phased in
    let spans = c.args.spans in
    let end : c.loop-place.place ≡ length w.steps = omega (arith, c.loop-place-test.false, c.loop-place.auto.place-end) in
    let first = c.args.store.now in
    let new = c.loop-place.store in
    let clear : AreClearSteps w c.args.care spans.roots spans.gates first new =
    solved_all w c.args.care spans.roots spans.gates c.requires.wholes.wholes c.requires.observed c.requires.steps c.requires.spans.roots_len c.requires.spans.gates_len
    first new
    (subst (λ (k : ℕ). IsSolvedBefore w c.args.care spans.roots spans.gates k first new) end (c.loop-place.invariant.solved fixed)) in (
      clear,
      clear_here w.circuit (phase_of w) w.observed c.requires.wholes.wholes.ranges w.parts c.args.care spans.roots spans.gates spans.out first new
          c.loop-place.invariant.writes c.requires.spans c.requires.care
          (clear_circuit w c.args.care spans.roots spans.gates c.requires.wholes.wholes c.requires.observed c.requires.steps c.requires.spans.roots_len c.requires.spans.gates_len
          first new fixed clear),
    )

pub returns-in-Err-clause-few : goal.returns-in-Err-clause-few
returns-in-Err-clause-few c one u care roots =
    let w : InPhase = in_phase c.args.phased in
    let spans = c.args.spans in
    let first = c.args.store.now in
    let old = c.loop-place.store in
    let new = c.check_step.new.store in
    let k = c.loop-place.place in
    let step : CircuitStep = c.step_at-step.result in
    let sums = sum_next (step_operations w) w.steps k step c.step_at-step.ensures in
    let all = sum_by-take-le (step_operations w) w.steps (k + 1) in
    let before = c.loop-place.invariant.counted one u care roots in
    let now = c.in-Err.ensures.few one u (within_same u (function_of first c.args.care) (function_of old c.args.care) (c.loop-place.invariant.writes.adds.kept c.args.care.0 c.requires.care) care) before.1.0 before.1.1 in
    spends_more u spans.gates (sum_by (step_operations w) (take k w.steps) + step_operations w step) (steps_operations w) first new (Err c.in-Err.spent) (omega (arith, sums, all))
    (spends_behind u spans.gates (sum_by (step_operations w) (take k w.steps)) (step_operations w step) first old new (Err c.in-Err.spent) before.0 (wired_gates u spans.gates spans.roots (step_operations w step) old new (Err c.in-Err.spent) now))

pub returns-in-Some-clause-few : goal.returns-in-Some-clause-few
returns-in-Some-clause-few c one u care roots =
    let w : InPhase = in_phase c.args.phased in
    let spans = c.args.spans in
    let first = c.args.store.now in
    let old = c.loop-place.store in
    let new = c.check_step.new.store in
    let k = c.loop-place.place in
    let step : CircuitStep = c.step_at-step.result in
    let sums = sum_next (step_operations w) w.steps k step c.step_at-step.ensures in
    let all = sum_by-take-le (step_operations w) w.steps (k + 1) in
    let before = c.loop-place.invariant.counted one u care roots in
    let now = c.in-Ok.ensures.few one u (within_same u (function_of first c.args.care) (function_of old c.args.care) (c.loop-place.invariant.writes.adds.kept c.args.care.0 c.requires.care) care) before.1.0 before.1.1 in
    spends_value u spans.gates (steps_operations w) first new c.in-Ok.found _
    (spends_more u spans.gates (sum_by (step_operations w) (take k w.steps) + step_operations w step) (steps_operations w) first new (Ok c.in-Ok.found) (omega (arith, sums, all))
    (spends_behind u spans.gates (sum_by (step_operations w) (take k w.steps)) (step_operations w step) first old new (Ok c.in-Ok.found) before.0 (wired_gates u spans.gates spans.roots (step_operations w step) old new (Ok c.in-Ok.found) now)))

pub returns-clause-few : goal.returns-clause-few
returns-clause-few c one u care roots =
    let w : InPhase = in_phase c.args.phased in
    let k = c.loop-place.place in
    let all = sum_by-take-le (step_operations w) w.steps k in
    let before = c.loop-place.invariant.counted one u care roots in
    record {
      counts = counts_ok u (steps_operations w) c.args.store.now c.loop-place.store _
          (counted_more u (sum_by (step_operations w) (take k w.steps)) (steps_operations w) c.args.store.now c.loop-place.store (omega (arith, all)) before.0);
      within = before.1.0;
    }

-- every handle reads only the variables of the store
pub returns-in-Err-clause-spent : goal.returns-in-Err-clause-spent
returns-in-Err-clause-spent c one =
    let d = c.args.store.now in
    let sound = c.sound.ensures.sound in
    used_counted d.vars (steps_operations (in_phase c.args.phased)) d c.check_step.new.store (Err c.in-Err.spent)
    (returns-in-Err-clause-few c one d.vars (reads_variables d c.args.care.0 sound c.requires.care)
    (λ n lt. reads_variables d (word_at d c.args.spans.roots n) sound (c.requires.spans.roots_live n lt))).counts
