use Rattle.std.proofs.Common.{ℕ, ◌+◌, ◌*◌, Err, arith, length}
use Rattle.bdd_ops.proofs.CountingLaws.{counts_more}
use Rattle.domino_order.proofs.EndLaws.{near_ends_count, near_ends_give}
use Rattle.domino_order.proofs.StepFound.{counts_both, same_vars}
use Rattle.domino_order.proofs.beginnings.near_ends.Goals as goal

pub returns-in-Err-clause-counts : goal.returns-in-Err-clause-counts
returns-in-Err-clause-counts c =
    let order : ℕ = length c.args.order.now in
    let arrivals : ℕ = length c.args.arrivals.now in
    counts_more c.args.store.now.vars (2 * order) (2 * order + 2 * arrivals + 1) c.args.store.now c.same_bits.new.store (Err c.in-Err.spent) (omega arith) c.in-Err.ensures.counts

pub returns-in-Err-moved-clause-counts : goal.returns-in-Err-moved-clause-counts
returns-in-Err-moved-clause-counts c =
    let order : ℕ = length c.args.order.now in
    let arrivals : ℕ = length c.args.arrivals.now in
    let old = c.args.store.now in
    let mid = c.same_bits.new.store in
    counts_both (2 * order) (2 * arrivals) (2 * order + 2 * arrivals + 1) old mid c.moved.new.store c.in-Ok.point (Err c.in-Err-moved.spent) (omega arith)
    (same_vars old mid old.words c.in-Ok.ensures.gives.adds) c.in-Ok.ensures.counts c.in-Err-moved.ensures.counts

pub returns-clause-gives : goal.returns-clause-gives
returns-clause-gives c =
    near_ends_give c.args.order.now c.args.arrivals.now c.args.begin.now c.args.ends c.args.store.now c.same_bits.new.store c.moved.new.store c.in-Ok.point c.in-Ok-moved.later c.sound.ensures.sound.ends
    c.requires.ends c.in-Ok.ensures.gives c.in-Ok.ensures.counts c.in-Ok-moved.ensures.gives c.in-Ok-moved.ensures.counts c.and.new.store c.and.result c.and.ensures.makes

pub returns-clause-counts : goal.returns-clause-counts
returns-clause-counts c =
    near_ends_count c.args.order.now c.args.arrivals.now c.args.begin.now c.args.ends c.args.store.now c.same_bits.new.store c.moved.new.store c.in-Ok.point c.in-Ok-moved.later c.sound.ensures.sound.ends
    c.requires.ends c.in-Ok.ensures.gives c.in-Ok.ensures.counts c.in-Ok-moved.ensures.gives c.in-Ok-moved.ensures.counts c.and.new.store c.and.result c.and.ensures.makes
