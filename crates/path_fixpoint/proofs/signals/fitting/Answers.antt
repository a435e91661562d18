use Rattle.std.proofs.Common.{◌+◌, ◌*◌, Ok, Err, arith, ◌∙◌}
use Rattle.bdd_ops.proofs.CountingLaws.{counted_more, counted_then, counts_more, counts_ok}
use Rattle.path_fixpoint.proofs.SpendingLaws.{finds_more, finds_then, span_still}
use Rattle.bdd_core.specs.Diagram.{meaning}
use Rattle.path_fixpoint.proofs.Fitting.{fits_more}
use Rattle.bdd_core.proofs.Frames.{writes_then}
use Rattle.path_fixpoint.proofs.signals.fitting.Goals as goal

pub loop-below-preserved : goal.loop-below-preserved
loop-below-preserved c =
    let out = c.args.out in
    let first = c.args.store.now in
    let old = c.loop-below.store in
    let new = c.limit.new.store in
    let i = c.loop-below.invariant in
    record {
      writes = writes_then out.span first old new i.writes (c.in-Ok.ensures.writes out.span i.writes.live);
      words = c.in-Ok.ensures.words ∙ i.words;
      live = c.in-Ok.ensures.live;
      is = λ v. fits_more first old out v i.writes i.words c.requires.out.1 c.args.from c.args.to c.args.device c.loop-below.below _ _ _
          (meaning old.nodes c.strength-here.result.0 v) (meaning old.nodes c.prefix-other.result.0 v) c.loop-below-test.true c.requires.from c.requires.to
          (i.is v) (c.strength-here.ensures.is v) (c.prefix-other.ensures.is v) (c.in-Ok.ensures.is v);
      few = λ u all within.
          let q = i.few u all within in
          let span = span_still u out.span out.span first old i.writes i.words c.requires.out.1 all in
          let f = c.in-Ok.ensures.few u q.1 (c.prefix-other.ensures.few u span) (c.strength-here.ensures.few u span) in
          (counted_more u (c.loop-below.below * 2 + 2) ((c.loop-below.below + 1) * 2) first new (omega arith) (counted_then u (c.loop-below.below * 2) 2 first old new q.0 f.counts.added), f.within);
    }

pub returns-clause-is : goal.returns-clause-is
returns-clause-is c v =
    let h = c.loop-below.invariant.is v in (
      λ e. let q = h.0 e in (q.0, λ level low high. q.1 level low (omega (arith, high, c.loop-below-test.false))),
      λ q. h.1 (q.0, λ level low lt. q.1 level low (omega (arith, lt, c.loop-below.auto.below-end))),
    )

pub returns-in-Err-clause-few : goal.returns-in-Err-clause-few
returns-in-Err-clause-few c u all within =
    let out = c.args.out in
    let first = c.args.store.now in
    let old = c.loop-below.store in
    let i = c.loop-below.invariant in
    let q = i.few u all within in
    let span = span_still u out.span out.span first old i.writes i.words c.requires.out.1 all in
    finds_more u (c.loop-below.below * 2 + 2) (2 * out.source) first c.limit.new.store (Err c.in-Err.spent) (omega (arith, c.loop-below-test.true))
    (finds_then u (c.loop-below.below * 2) 2 first old c.limit.new.store (Err c.in-Err.spent) q.0 (c.in-Err.ensures.few u q.1 (c.prefix-other.ensures.few u span) (c.strength-here.ensures.few u span)))

pub returns-clause-few : goal.returns-clause-few
returns-clause-few c u all within =
    let q = c.loop-below.invariant.few u all within in
    record {
      counts = counts_more u (c.loop-below.below * 2) (2 * c.args.out.source) c.args.store.now c.loop-below.store (Ok c.loop-below.signal) (omega (arith, c.loop-below.auto.below-end))
          (counts_ok u (c.loop-below.below * 2) c.args.store.now c.loop-below.store c.loop-below.signal q.0);
      within = q.1;
    }

pub returns-in-Err-clause-writes : goal.returns-in-Err-clause-writes
returns-in-Err-clause-writes c =
    writes_then c.args.out.span c.args.store.now c.loop-below.store c.limit.new.store c.loop-below.invariant.writes
    (c.in-Err.ensures.writes c.args.out.span c.loop-below.invariant.writes.live)
