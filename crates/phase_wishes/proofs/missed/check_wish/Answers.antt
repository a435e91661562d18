use Rattle.std.proofs.Common.{Err, arith}
use Rattle.bdd_core.specs.Store.{function_of}
use Rattle.bdd_ops.proofs.CountingLaws.{counts_err, counts_more, counts_then}
use Rattle.bdd_ops.proofs.WithinLaws.{within_same}
use Rattle.phase_wishes.proofs.MissedLaws.{asked_within, bits_added, compared_by, within_added}
use Rattle.phase_wishes.specs.Missed.{IsCompared, IsComparedAt, asked_in}
use Rattle.bdd_core.proofs.Results.{if_ok_more}
use Rattle.bdd_core.proofs.Frames.{nodes_then}
use Rattle.phase_wishes.proofs.missed.check_wish.Goals as goal

pub compare-requires-clause-asked : goal.compare-requires-clause-asked
compare-requires-clause-asked c = c.in-Ok.ensures.means.live

pub compare-requires-clause-bits : goal.compare-requires-clause-bits
compare-requires-clause-bits c = bits_added c.args.bits c.args.store.now c.asked_in.new.store c.in-Ok.ensures.adds c.requires.bits

pub returns-in-Err-clause-counts : goal.returns-in-Err-clause-counts
returns-in-Err-clause-counts c u care bits =
    counts_err u 4 c.args.store.now c.asked_in.new.store c.in-Err.spent
    (counts_more u 1 4 c.args.store.now c.asked_in.new.store (Err c.in-Err.spent) (omega arith) (c.in-Err.ensures.counts u care bits))

pub returns-clause-adds : goal.returns-clause-adds
returns-clause-adds c = nodes_then c.args.store.now c.asked_in.new.store c.compare.new.store c.in-Ok.ensures.adds c.compare.ensures.adds

pub returns-clause-compared : goal.returns-clause-compared
returns-clause-compared c =
    let old = c.args.store.now in
    let mid = c.asked_in.new.store in
    let new = c.compare.new.store in
    let asked = c.in-Ok.asked in
    if_ok_more (IsComparedAt mid new (function_of mid asked) c.args.bits c.args.wish) (IsCompared old new c.args.care c.args.bits c.args.wish) c.compare.result
    (λ fault is. compared_by old mid c.in-Ok.ensures.adds c.args.bits c.requires.bits new (function_of mid asked) (asked_in old c.args.care c.args.bits c.args.wish.free) c.args.wish fault
    c.in-Ok.ensures.means.same c.requires.net c.requires.inside is) c.compare.ensures.compared

pub returns-clause-counts : goal.returns-clause-counts
returns-clause-counts c u care bits =
    let old = c.args.store.now in
    let mid = c.asked_in.new.store in
    let new = c.compare.new.store in
    let asked = asked_in old c.args.care c.args.bits c.args.wish.free in
    counts_then u 1 3 old mid new c.compare.result (c.in-Ok.ensures.counts u care bits).added
    (c.compare.ensures.counts u
    (within_same u asked (function_of mid c.in-Ok.asked) c.in-Ok.ensures.means.same (asked_within u old c.args.care c.args.bits c.args.wish.free c.requires.free care bits))
    (within_added u c.args.bits old mid c.in-Ok.ensures.adds c.requires.bits bits))
