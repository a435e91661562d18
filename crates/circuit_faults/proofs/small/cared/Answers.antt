use Rattle.std.proofs.Common.{◌+◌, ◌-◌, ◌^◌, Err, Ok, arith}
use Rattle.std.proofs.lemmas.Nat.{pow_pos}
use Rattle.bdd_core.proofs.Frames.{nodes_then}
use Rattle.bdd_core.proofs.Results.{if_ok_more}
use Rattle.bdd_ops.proofs.CountingLaws.{counts_more, counts_none, counts_then}
use Rattle.circuit_faults.proofs.SmallFaults.{cared_counts, cared_made, cared_zero}
use Rattle.circuit_faults.proofs.small.cared.Goals as goal

pub returns-then-f-eq0-clause-is : goal.returns-then-f-eq0-clause-is
returns-then-f-eq0-clause-is c = cared_zero c.args.functions c.args.store.now c.args.care c.args.f c.requires.1.live c.if-f-eq0.true

pub returns-then-f-eq0-clause-counts : goal.returns-then-f-eq0-clause-counts
returns-then-f-eq0-clause-counts c u care reads = counts_more u 0 (2 ^ c.args.functions.count) c.args.store.now c.args.store.now (Ok c.args.f) (omega arith) (counts_none u c.args.store.now c.args.f)

pub returns-in-Err-clause-counts : goal.returns-in-Err-clause-counts
returns-in-Err-clause-counts c u care reads =
    let n = c.args.functions.count in
    counts_more u (2 ^ n - 1) (2 ^ n) c.args.store.now c.composed.new.store (Err c.in-Err.spent) (omega arith) (c.in-Err.ensures.counts u n reads (omega arith))

pub returns-clause-adds : goal.returns-clause-adds
returns-clause-adds c = nodes_then c.args.store.now c.composed.new.store c.and.new.store c.in-Ok.ensures.gives.adds c.and.ensures.makes.adds

pub returns-clause-is : goal.returns-clause-is
returns-clause-is c =
    if_ok_more _ _ c.and.result
    (λ h m. cared_made c.args.functions c.args.store.now c.composed.new.store c.and.new.store c.args.care c.args.f c.in-Ok.there c.requires.0 c.in-Ok.ensures.gives h m)
    c.and.ensures.makes.ok

pub returns-clause-counts : goal.returns-clause-counts
returns-clause-counts c u care reads =
    let n = c.args.functions.count in
    counts_more u ((2 ^ n - 1) + 1) (2 ^ n) c.args.store.now c.and.new.store c.and.result (omega (arith, pow_pos n))
    (counts_then u (2 ^ n - 1) 1 c.args.store.now c.composed.new.store c.and.new.store c.and.result (c.in-Ok.ensures.counts u n reads (omega arith)).added
    (cared_counts c.args.functions c.args.store.now c.composed.new.store c.and.new.store c.args.care c.args.f c.in-Ok.there c.requires.0 c.in-Ok.ensures.gives u c.and.result c.sound.ensures.sound.ends reads care
    c.and.ensures.makes))
