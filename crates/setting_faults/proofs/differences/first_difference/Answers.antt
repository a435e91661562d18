use Rattle.std.proofs.Common.{◌+◌, ◌*◌, ◌<◌, Err, Some, Option, length, arith, subst}
use Rattle.bdd_core.proofs.Frames.{nodes_then}
use Rattle.bdd_core.specs.declared.handle.H.{H}
use Rattle.bdd_ops.proofs.CountingLaws.{counted_more, counted_then, counts_more, counts_ok, counts_then}
use Rattle.circuit_faults.proofs.CountLaws.{kept_within, span_within}
use Rattle.setting_faults.proofs.DifferenceLaws.{alike_here, alike_next, difference_at, differ_exactly, net_read, read_within}
use Rattle.setting_faults.specs.Differences.{NetDiffers}
use Rattle.vrt_model.specs.Lists.{mark_at}
use Rattle.setting_faults.proofs.differences.first_difference.Goals as goal

pub loop-n-preserved : goal.loop-n-preserved
loop-n-preserved c =
    let first = c.args.store.now in
    let now = c.loop-n.store in
    let new = c.net_difference.new.store in
    let n = c.loop-n.n in
    let care = c.args.care in
    let left = c.args.left in
    let right = c.args.right in
    let adds = c.loop-n.invariant.adds in
    let lt = c.loop-n-test.true in
    let l = c.requires.left.2 in
    let r = c.requires.right.2 in
    let lt_right : n < right.len = omega (arith, l, r, lt) in
    let gives = subst (λ (o : Option H). NetDiffers (mark_at c.args.observed.now n) (difference_at care left right now n) new o) c.in_default.is
    (net_read now left right n c.read.result c.read-in-loop-n.result c.read.ensures c.read-in-loop-n.ensures (mark_at c.args.observed.now n) care new c.in-Ok.found c.in-Ok.ensures.gives) in
    record {
      adds = nodes_then first now new adds c.net_difference.ensures.adds;
      alike = alike_next (mark_at c.args.observed.now) care left right first n c.loop-n.invariant.alike
          (λ seen. alike_here care left right first now adds c.requires.care n (c.requires.left.1 n c.loop-n-test.true)
          (c.requires.right.1 n lt_right) (gives seen));
      counted = λ u care_in left_in right_in.
          let before = c.loop-n.invariant.counted u care_in left_in right_in in
          let one = c.in-Ok.ensures.counts u (kept_within u first now care adds c.requires.care care_in) (read_within u now left n c.read.result c.read.ensures lt (span_within u left first now adds c.requires.left.1 left_in))
          (read_within u now right n c.read-in-loop-n.result c.read-in-loop-n.ensures lt_right (span_within u right first now adds c.requires.right.1 right_in)) in
          counted_more u (3 * n + 3) (3 * (n + 1)) first new (omega arith) (counted_then u (3 * n) 3 first now new before one.added);
    }

pub returns-in-Err-clause-few : goal.returns-in-Err-clause-few
returns-in-Err-clause-few c u care_in left_in right_in =
    let first = c.args.store.now in
    let now = c.loop-n.store in
    let new = c.net_difference.new.store in
    let n = c.loop-n.n in
    let care = c.args.care in
    let left = c.args.left in
    let right = c.args.right in
    let adds = c.loop-n.invariant.adds in
    let lt = c.loop-n-test.true in
    let l = c.requires.left.2 in
    let r = c.requires.right.2 in
    let before = c.loop-n.invariant.counted u care_in left_in right_in in
    let one = c.in-Err.ensures.counts u (kept_within u first now care adds c.requires.care care_in) (read_within u now left n c.read.result c.read.ensures lt (span_within u left first now adds c.requires.left.1 left_in))
    (read_within u now right n c.read-in-loop-n.result c.read-in-loop-n.ensures (omega (arith, l, r, lt)) (span_within u right first now adds c.requires.right.1 right_in)) in
    counts_more u (3 * n + 3) (3 * length c.args.observed.now) first new (Err c.in-Err.spent) (omega (arith, lt, l)) (counts_then u (3 * n) 3 first now new (Err c.in-Err.spent) before one)

pub returns-in-Some-clause-gives : goal.returns-in-Some-clause-gives
returns-in-Some-clause-gives c =
    let first = c.args.store.now in
    let now = c.loop-n.store in
    let new = c.net_difference.new.store in
    let n = c.loop-n.n in
    let care = c.args.care in
    let left = c.args.left in
    let right = c.args.right in
    let lt = c.loop-n-test.true in
    let l = c.requires.left.2 in
    let r = c.requires.right.2 in
    let gives = subst (λ (o : Option H). NetDiffers (mark_at c.args.observed.now n) (difference_at care left right now n) new o) c.in-Some.is
    (net_read now left right n c.read.result c.read-in-loop-n.result c.read.ensures c.read-in-loop-n.ensures (mark_at c.args.observed.now n) care new c.in-Ok.found c.in-Ok.ensures.gives) in
    record {
      live = gives.1.live;
      some = gives.2;
      net = n;
      seen = gives.0;
      exact = differ_exactly care left right first now c.loop-n.invariant.adds c.requires.care n (c.requires.left.1 n lt) (c.requires.right.1 n (omega (arith, l, r, lt))) new c.in-Some.at gives.1;
    }

pub returns-in-Some-clause-few : goal.returns-in-Some-clause-few
returns-in-Some-clause-few c u care_in left_in right_in =
    let first = c.args.store.now in
    let now = c.loop-n.store in
    let new = c.net_difference.new.store in
    let n = c.loop-n.n in
    let care = c.args.care in
    let left = c.args.left in
    let right = c.args.right in
    let adds = c.loop-n.invariant.adds in
    let lt = c.loop-n-test.true in
    let l = c.requires.left.2 in
    let r = c.requires.right.2 in
    let before = c.loop-n.invariant.counted u care_in left_in right_in in
    let one = c.in-Ok.ensures.counts u (kept_within u first now care adds c.requires.care care_in) (read_within u now left n c.read.result c.read.ensures lt (span_within u left first now adds c.requires.left.1 left_in))
    (read_within u now right n c.read-in-loop-n.result c.read-in-loop-n.ensures (omega (arith, l, r, lt)) (span_within u right first now adds c.requires.right.1 right_in)) in
    counts_ok u (3 * length c.args.observed.now) first new (Some c.in-Some.at)
    (counted_more u (3 * n + 3) (3 * length c.args.observed.now) first new (omega (arith, lt, l)) (counted_then u (3 * n) 3 first now new before one.added))
