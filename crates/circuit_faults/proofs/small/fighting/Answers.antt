use Rattle.std.proofs.Common.{◌+◌, ◌^◌, Err, Ok, arith}
use Rattle.bdd_core.proofs.Frames.{nodes_then}
use Rattle.bdd_core.proofs.Results.{if_ok_more}
use Rattle.bdd_core.specs.Diagram.{Function}
use Rattle.bdd_core.specs.Store.{function_of}
use Rattle.bdd_ops.proofs.CountingLaws.{counts_made, counts_more, counts_then}
use Rattle.bdd_ops.proofs.WithinLaws.{within_and, within_same}
use Rattle.bdd_ops.specs.Ops.{and_of}
use Rattle.circuit_faults.proofs.SmallFaults.{fight_composed, made_inner}
use Rattle.part_functions.proofs.ComposeLaws.{within_kept}
use Rattle.part_functions.proofs.SpendLaws.{within_more}
use Rattle.circuit_faults.proofs.small.fighting.Goals as goal

pub cared-requires : goal.cared-requires
cared-requires c =
    let old = c.args.store.now in
    let mid = c.and.new.store in
    let n = c.args.functions.count in
    let adds = c.in-Ok.ensures.makes.adds in
    let live = c.requires.0 in
    let longer = adds.longer in (
      omega (arith, live, longer),
      made_inner c.args.functions old mid adds c.requires.1 c.in-Ok.both (and_of (function_of old c.args.zero) (function_of old c.args.one)) c.in-Ok.ensures.makes.ok
          (within_and n (function_of old c.args.zero) (function_of old c.args.one) c.requires.1.within c.requires.2.within),
    )

pub returns-in-Err-clause-counts : goal.returns-in-Err-clause-counts
returns-in-Err-clause-counts c u few care reads =
    let old = c.args.store.now in
    let f : Function = and_of (function_of old c.args.zero) (function_of old c.args.one) in
    let zero = within_more c.args.functions.count u (function_of old c.args.zero) few c.requires.1.within in
    let one = within_more c.args.functions.count u (function_of old c.args.one) few c.requires.2.within in
    counts_more u 1 (2 ^ c.args.functions.count + 1) old c.and.new.store (Err c.in-Err.spent) (omega arith)
    (counts_made u old c.and.new.store c.sound.ensures.sound.ends f (Err c.in-Err.spent) c.in-Err.ensures.makes (within_and u (function_of old c.args.zero) (function_of old c.args.one) zero one))

pub returns-clause-adds : goal.returns-clause-adds
returns-clause-adds c = nodes_then c.args.store.now c.and.new.store c.cared.new.store c.in-Ok.ensures.makes.adds c.cared.ensures.adds

pub returns-clause-is : goal.returns-clause-is
returns-clause-is c =
    if_ok_more _ _ c.cared.result
    (λ h m. fight_composed c.args.functions c.args.store.now c.and.new.store c.in-Ok.ensures.makes.adds c.requires.1.there c.args.care c.requires.0 c.args.zero c.args.one c.cared.new.store h c.in-Ok.both
    c.in-Ok.ensures.makes.ok m)
    c.cared.ensures.is

pub returns-clause-counts : goal.returns-clause-counts
returns-clause-counts c u few care reads =
    let old = c.args.store.now in
    let mid = c.and.new.store in
    let adds = c.in-Ok.ensures.makes.adds in
    let f : Function = and_of (function_of old c.args.zero) (function_of old c.args.one) in
    let zero = within_more c.args.functions.count u (function_of old c.args.zero) few c.requires.1.within in
    let one = within_more c.args.functions.count u (function_of old c.args.one) few c.requires.2.within in
    let first = counts_made u old mid c.sound.ensures.sound.ends f (Ok c.in-Ok.both) c.in-Ok.ensures.makes (within_and u (function_of old c.args.zero) (function_of old c.args.one) zero one) in
    let n = c.args.functions.count in
    counts_more u (1 + 2 ^ n) (2 ^ n + 1) old c.cared.new.store c.cared.result (omega arith)
    (counts_then u 1 (2 ^ n) old mid c.cared.new.store c.cared.result first.added
    (c.cared.ensures.counts u (within_same u (function_of old c.args.care) (function_of mid c.args.care) (adds.kept c.args.care.0 c.requires.0) care)
    (within_kept c.args.functions old mid old.words adds c.requires.1.there u reads)))
