use Rattle.std.proofs.Common.{ℕ, ◌+◌, ◌*◌, Err, arith, length}
use Rattle.bdd_core.specs.Store.{IsLive}
use Rattle.bdd_core.specs.declared.handle.H.{H}
use Rattle.bdd_core.proofs.Frames.{word_added}
use Rattle.bdd_ops.proofs.CountingLaws.{counts_more}
use Rattle.domino_order.proofs.EndLaws.{begins_gives, but_counts}
use Rattle.domino_order.proofs.beginnings.beginnings.Goals as goal

pub returns-in-Err-clause-counts : goal.returns-in-Err-clause-counts
returns-in-Err-clause-counts c =
    let order : ℕ = length c.args.order.now in
    let arrivals : ℕ = length c.args.arrivals.now in
    counts_more c.args.store.now.vars (2 * order + 6 * arrivals + 2) (2 * order + 6 * arrivals + 3) c.args.store.now c.reached.new.store (Err c.in-Err.spent) (omega arith) c.in-Err.ensures.counts

pub returns-clause-gives : goal.returns-clause-gives
returns-clause-gives c =
    let risen : H = record { 0 = c.read.result } in
    begins_gives c.args.store.now c.reached.new.store c.ite.new.self c.args.net c.args.given c.args.order.now c.args.arrivals.now c.args.bound.now _ c.in-Ok.all risen c.ite.result c.requires.given.1
    c.requires.given.2 c.in-Ok.ensures.gives c.read.ensures c.ite.ensures.makes

pub returns-clause-counts : goal.returns-clause-counts
returns-clause-counts c =
    let order : ℕ = length c.args.order.now in
    let arrivals : ℕ = length c.args.arrivals.now in
    let old = c.args.store.now in
    let mid = c.reached.new.store in
    let adds = c.in-Ok.ensures.gives.adds in
    let risen : H = record { 0 = c.read.result } in
    let there : IsLive mid risen = (
    let read = c.read.ensures in
    let same = word_added c.args.given old mid c.args.net adds in
    let live = c.requires.given.1 c.args.net c.requires.given.2 in
    let longer = adds.longer in omega (arith, read, same, live, longer)
    ) in
    counts_more old.vars (2 * order + 6 * arrivals + 2 + 1) (2 * order + 6 * arrivals + 3) old c.ite.new.self c.ite.result (omega arith)
    (but_counts old mid c.ite.new.self old.words (2 * order + 6 * arrivals + 2) risen c.in-Ok.all c.ite.result c.sound.ensures.sound.ends adds there c.in-Ok.ensures.gives.ok.live
    c.in-Ok.ensures.counts.added c.ite.ensures.makes)
