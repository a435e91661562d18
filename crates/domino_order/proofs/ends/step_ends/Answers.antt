use Rattle.std.proofs.Common.{ℕ, ◌+◌, ◌*◌, Err, arith, length}
use Rattle.bdd_ops.proofs.CountingLaws.{counts_more}
use Rattle.domino_order.proofs.StepFound.{counts_both, same_vars}
use Rattle.domino_order.proofs.ends.step_ends.Goals as goal

pub returns-in-Err-clause-counts : goal.returns-in-Err-clause-counts
returns-in-Err-clause-counts c =
    let order : ℕ = length c.args.order.now in
    counts_more c.args.store.now.vars 1 (2 * order + 2) c.args.store.now c.high_ends.new.store (Err c.in-Err.spent) (omega arith) c.in-Err.ensures.counts

pub returns-clause-counts : goal.returns-clause-counts
returns-clause-counts c =
    let order : ℕ = length c.args.order.now in
    let old = c.args.store.now in
    let mid = c.high_ends.new.store in
    counts_both 1 (2 * order + 1) (2 * order + 2) old mid c.ends_before.new.store c.in-Ok.ends c.ends_before.result (omega arith) (same_vars old mid old.words c.in-Ok.ensures.gives.adds)
    c.in-Ok.ensures.counts c.ends_before.ensures.counts
