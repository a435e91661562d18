use Rattle.std.proofs.Common.{◌+◌, ◌^◌, Err, arith}
use Rattle.bdd_core.proofs.Frames.{nodes_then}
use Rattle.bdd_core.proofs.Results.{if_ok_more}
use Rattle.bdd_core.specs.Store.{function_of}
use Rattle.bdd_ops.proofs.CountingLaws.{counts_more, counts_then}
use Rattle.bdd_ops.proofs.WithinLaws.{within_same}
use Rattle.circuit_faults.proofs.SmallFaults.{float_composed, made_inner, within_nor}
use Rattle.circuit_faults.specs.Small.{nor_of}
use Rattle.part_functions.proofs.ComposeLaws.{within_kept}
use Rattle.part_functions.proofs.SpendLaws.{within_more}
use Rattle.circuit_faults.proofs.small.floating.Goals as goal

pub cared-requires : goal.cared-requires
cared-requires c =
    let old = c.args.store.now in
    let mid = c.neither.new.store in
    let n = c.args.functions.count in
    let adds = c.in-Ok.ensures.adds in
    let live = c.requires.0 in
    let longer = adds.longer in (
      omega (arith, live, longer),
      made_inner c.args.functions old mid adds c.requires.1 c.in-Ok.none (nor_of (function_of old c.args.zero) (function_of old c.args.one)) c.in-Ok.ensures.is
          (within_nor n (function_of old c.args.zero) (function_of old c.args.one) c.requires.1.within c.requires.2.within),
    )

pub returns-in-Err-clause-counts : goal.returns-in-Err-clause-counts
returns-in-Err-clause-counts c u few care reads =
    let old = c.args.store.now in
    counts_more u 2 (2 ^ c.args.functions.count + 2) old c.neither.new.store (Err c.in-Err.spent) (omega arith)
    (c.in-Err.ensures.counts u (within_more c.args.functions.count u (function_of old c.args.zero) few c.requires.1.within) (within_more c.args.functions.count u (function_of old c.args.one) few c.requires.2.within))

pub returns-clause-adds : goal.returns-clause-adds
returns-clause-adds c = nodes_then c.args.store.now c.neither.new.store c.cared.new.store c.in-Ok.ensures.adds c.cared.ensures.adds

pub returns-clause-is : goal.returns-clause-is
returns-clause-is c =
    if_ok_more _ _ c.cared.result
    (λ h m. float_composed c.args.functions c.args.store.now c.neither.new.store c.in-Ok.ensures.adds c.requires.1.there c.args.care c.requires.0 c.args.zero c.args.one c.cared.new.store h c.in-Ok.none
    c.in-Ok.ensures.is m)
    c.cared.ensures.is

pub returns-clause-counts : goal.returns-clause-counts
returns-clause-counts c u few care reads =
    let old = c.args.store.now in
    let mid = c.neither.new.store in
    let adds = c.in-Ok.ensures.adds in
    let first = c.in-Ok.ensures.counts u (within_more c.args.functions.count u (function_of old c.args.zero) few c.requires.1.within) (within_more c.args.functions.count u (function_of old c.args.one) few c.requires.2.within) in
    let n = c.args.functions.count in
    counts_more u (2 + 2 ^ n) (2 ^ n + 2) old c.cared.new.store c.cared.result (omega arith)
    (counts_then u 2 (2 ^ n) old mid c.cared.new.store c.cared.result first.added
    (c.cared.ensures.counts u (within_same u (function_of old c.args.care) (function_of mid c.args.care) (adds.kept c.args.care.0 c.requires.0) care)
    (within_kept c.args.functions old mid old.words adds c.requires.1.there u reads)))
