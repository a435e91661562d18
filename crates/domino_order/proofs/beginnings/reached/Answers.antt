use Rattle.std.proofs.Common.{ℕ, ◌+◌, ◌*◌, Bool, List, Err, Ok, arith, length, subst}
use Rattle.bdd_core.proofs.Frames.{nodes_then}
use Rattle.bdd_core.specs.Store.{Gives, IsLive}
use Rattle.bdd_ops.proofs.CountingLaws.{counts_more}
use Rattle.domino_order.proofs.EndLaws.{or_counts, reached_gives}
use Rattle.domino_order.proofs.StepFound.{counts_both, same_vars}
use Rattle.domino_order.specs.Beginnings.{beside_of}
use Rattle.domino_order.proofs.beginnings.reached.Goals as goal

pub returns-in-Err-clause-counts : goal.returns-in-Err-clause-counts
returns-in-Err-clause-counts c =
    let order : ℕ = length c.args.order.now in
    let arrivals : ℕ = length c.args.arrivals.now in
    counts_more c.args.store.now.vars (2 * arrivals) (2 * order + 6 * arrivals + 2) c.args.store.now c.moved.new.store (Err c.in-Err.spent) (omega arith) c.in-Err.ensures.counts

pub returns-in-Err-beside-clause-counts : goal.returns-in-Err-beside-clause-counts
returns-in-Err-beside-clause-counts c =
    let order : ℕ = length c.args.order.now in
    let arrivals : ℕ = length c.args.arrivals.now in
    let old = c.args.store.now in
    let mid = c.moved.new.store in
    counts_both (2 * arrivals) (2 * order + 4 * arrivals + 1) (2 * order + 6 * arrivals + 2) old mid c.beside.new.store c.in-Ok.from (Err c.in-Err-beside.spent) (omega arith)
    (same_vars old mid old.words c.in-Ok.ensures.gives.adds) c.in-Ok.ensures.counts c.in-Err-beside.ensures.counts

pub returns-clause-gives : goal.returns-clause-gives
returns-clause-gives c =
    let beside = subst (λ (xs : List Bool). Gives c.moved.new.store c.beside.new.store (beside_of c.args.order.now c.args.arrivals.now xs) (Ok c.in-Ok-beside.beside)) c.as_slice.ensures c.in-Ok-beside.ensures.gives in
    reached_gives c.args.bound.now c.in-Some.bound c.args.order.now c.args.arrivals.now _ c.args.store.now c.moved.new.store c.beside.new.store c.or.new.store c.in-Ok.from c.in-Ok-beside.beside c.or.result
    c.in-Some.is c.in-Ok.ensures.gives beside c.or.ensures.makes

pub returns-clause-counts : goal.returns-clause-counts
returns-clause-counts c =
    let order : ℕ = length c.args.order.now in
    let arrivals : ℕ = length c.args.arrivals.now in
    let old = c.args.store.now in
    let m1 = c.moved.new.store in
    let m2 = c.beside.new.store in
    let first = c.in-Ok.ensures.gives in
    let second = c.in-Ok-beside.ensures.gives in
    let live : IsLive m2 c.in-Ok.from = (let live = first.ok.live in let longer = second.adds.longer in omega (arith, live, longer)) in
    counts_more old.vars (2 * order + 6 * arrivals + 1 + 1) (2 * order + 6 * arrivals + 2) old c.or.new.store c.or.result (omega arith)
    (or_counts old m2 c.or.new.store old.words (2 * order + 6 * arrivals + 1) c.in-Ok.from c.in-Ok-beside.beside c.or.result c.sound.ensures.sound.ends (nodes_then old m1 m2 first.adds second.adds) live
    second.ok.live
    (counts_both (2 * arrivals) (2 * order + 4 * arrivals + 1) (2 * order + 6 * arrivals + 1) old m1 m2 c.in-Ok.from (Ok c.in-Ok-beside.beside) (omega arith) (same_vars old m1 old.words first.adds)
    c.in-Ok.ensures.counts c.in-Ok-beside.ensures.counts).added c.or.ensures.makes)
