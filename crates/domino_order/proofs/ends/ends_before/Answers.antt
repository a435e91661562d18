use Rattle.std.proofs.Common.{◌*◌, arith, length}
use Rattle.bdd_core.specs.Store.{IsLive}
use Rattle.domino_order.proofs.EndLaws.{and_counts}
use Rattle.domino_order.proofs.ends.ends_before.Goals as goal

pub returns-clause-counts : goal.returns-clause-counts
returns-clause-counts c =
    let old = c.args.store.now in
    let mid = c.before-2.new.store in
    let adds = c.in-Ok.ensures.gives.adds in
    let live : IsLive mid c.args.ends = (let live = c.requires.ends in let longer = adds.longer in omega (arith, live, longer)) in
    and_counts old mid c.and.new.store old.words (2 * length c.args.order.now) c.args.ends c.in-Ok.less c.and.result c.sound.ensures.sound.ends adds live c.in-Ok.ensures.gives.ok.live
    c.in-Ok.ensures.counts.added c.and.ensures.makes
