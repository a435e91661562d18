use Rattle.std.proofs.Common.{ℕ, ◌+◌, Err, get_or, take, arith}
use Rattle.std.specs.Prelude.{sum_by}
use Rattle.std.proofs.lemmas.List.Sums.{sum_by-take-le, sum_by_more}
use Rattle.std.proofs.lemmas.Option.{slice_get-get_or}
use Rattle.bdd_ops.proofs.CountingLaws.{counted_more, counted_none, counted_then, counts_more, counts_ok, counts_then}
use Rattle.bdd_ops.specs.Counting.{IsCounted}
use Rattle.blif_eval.proofs.EvalLaws.{settled_next, spans_kept, within_beside, within_next}
use Rattle.bdd_core.proofs.Frames.{writes_none, writes_then}
use Rattle.blif_eval.specs.Operations.{number_operations}
use Rattle.blif_eval.specs.Settled.{HasStepSpans}
use Rattle.vrt_model.specs.Lists.{At}
use Rattle.blif_eval.proofs.eval.settle_all.Goals as goal

pub loop-number-init : goal.loop-number-init
loop-number-init c = record {
  writes = writes_none c.args.out c.args.store.now c.sound.ensures.sound c.sound.ensures.within c.requires.spans.out_live;
  settled = λ v j n lt here. absurd (omega (arith, lt));
  counted = λ u reads reads' reads''. (counted_none u c.args.store.now, reads'');
}

pub settle-requires-clause-spans : goal.settle-requires-clause-spans
settle-requires-clause-spans c =
    spans_kept c.args.flat.now c.args.inputs c.args.held c.args.out c.args.store.now c.loop-number.store c.requires.spans c.loop-number.invariant.writes

pub settle-requires-clause-drivers : goal.settle-requires-clause-drivers
settle-requires-clause-drivers c = c.requires.plan.1.drivers

pub settle-requires-clause-number : goal.settle-requires-clause-number
settle-requires-clause-number c =
    c.requires.plan.1.lists.below (get_or c.args.steps.now c.loop-number.number-index 0)
    (c.loop-number.number-index, slice_get-get_or c.args.steps.now c.loop-number.number-index 0 c.loop-number-test.true)

pub returns-in-Err-clause-writes : goal.returns-in-Err-clause-writes
returns-in-Err-clause-writes c = writes_then c.args.out c.args.store.now c.loop-number.store c.settle.new.store c.loop-number.invariant.writes c.settle.ensures.writes

pub returns-in-Err-clause-counts : goal.returns-in-Err-clause-counts
returns-in-Err-clause-counts c u reads reads' reads'' =
    let flat = c.args.flat.now in
    let drivers = c.args.drivers.now in
    let steps = c.args.steps.now in
    let first = c.args.store.now in
    let old = c.loop-number.store in
    let new = c.settle.new.store in
    let at = c.loop-number.number-index in
    let t : ℕ = get_or steps at 0 in
    let f = number_operations flat drivers in
    let spans = c.requires.spans in
    let w = c.loop-number.invariant.writes in
    let before = c.loop-number.invariant.counted u reads reads' reads'' in
    let more = sum_by_more f steps at 0 c.loop-number-test.true in
    let all = sum_by-take-le f steps (at + 1) in
    counts_more u (sum_by f (take at steps) + f t) (sum_by f steps) first new (Err c.in-Err.spent) (omega (arith, more, all))
    (counts_then u (sum_by f (take at steps)) (f t) first old new (Err c.in-Err.spent) before.0
    (c.in-Err.ensures.counts u (within_beside u c.args.inputs c.args.out first old w spans.inputs_apart spans.inputs_live reads)
    (within_beside u c.args.held c.args.out first old w spans.held_apart spans.held_live reads') before.1))

pub loop-number-preserved : goal.loop-number-preserved
loop-number-preserved c =
    let flat = c.args.flat.now in
    let drivers = c.args.drivers.now in
    let steps = c.args.steps.now in
    let inputs = c.args.inputs in
    let held = c.args.held in
    let out = c.args.out in
    let first = c.args.store.now in
    let old = c.loop-number.store in
    let new = c.settle.new.store in
    let at = c.loop-number.number-index in
    let i = c.loop-number.invariant in
    let spans = c.requires.spans in
    let t : ℕ = get_or steps at 0 in
    let there : At steps at t = slice_get-get_or steps at 0 c.loop-number-test.true in
    let now : HasStepSpans flat inputs held out old = spans_kept flat inputs held out first old spans i.writes in
    record {
      writes = writes_then out first old new i.writes c.settle.ensures.writes;
      settled = settled_next flat c.requires.model drivers steps inputs held out first c.requires.plan spans.inputs_len old new at t spans now i.writes c.settle.ensures.writes c.settle.ensures.others there
          i.settled c.in-Ok.ensures.value;
      counted = λ u reads reads' reads''.
          let f = number_operations flat drivers in
          let before = i.counted u reads reads' reads'' in
          let more = sum_by_more f steps at 0 c.loop-number-test.true in
          let inputs_now = within_beside u inputs out first old i.writes spans.inputs_apart spans.inputs_live reads in
          let held_now = within_beside u held out first old i.writes spans.held_apart spans.held_live reads' in
          let counted : IsCounted u (sum_by f (take (at + 1) steps)) first new =
          counted_more u (sum_by f (take at steps) + f t) (sum_by f (take (at + 1) steps)) first new (omega (arith, more))
          (counted_then u (sum_by f (take at steps)) (f t) first old new before.0 (c.in-Ok.ensures.counts u inputs_now held_now before.1).added) in (
            counted,
            within_next flat c.requires.model drivers steps inputs held out first c.requires.plan spans.inputs_len u old new at t now c.settle.ensures.writes c.settle.ensures.others there
                c.in-Ok.ensures.value inputs_now held_now before.1,
          );
    }

pub returns-clause-settled : goal.returns-clause-settled
returns-clause-settled c v j n lt here = c.loop-number.invariant.settled v j n (omega (arith, lt, c.loop-number-test.false)) here

pub returns-clause-counts : goal.returns-clause-counts
returns-clause-counts c u reads reads' reads'' =
    let f = number_operations c.args.flat.now c.args.drivers.now in
    let steps = c.args.steps.now in
    let at = c.loop-number.number-index in
    let all = sum_by-take-le f steps at in
    counts_ok u (sum_by f steps) c.args.store.now c.loop-number.store _
    (counted_more u (sum_by f (take at steps)) (sum_by f steps) c.args.store.now c.loop-number.store (omega (arith, all)) (c.loop-number.invariant.counted u reads reads' reads'').0)

pub returns-in-Err-clause-spent : goal.returns-in-Err-clause-spent
returns-in-Err-clause-spent c = c.in-Err.ensures.spent
