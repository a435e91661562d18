use Rattle.std.proofs.Common.{◌+◌, ◌*◌, ◌^◌, Err, arith, refl, sym, ◌∙◌}
use Rattle.std.proofs.lemmas.Bool.{false≢true}
use Rattle.bdd_core.specs.Store.{function_of}
use Rattle.bdd_core.specs.declared.handle.H.{H}
use Rattle.bdd_ops.proofs.CountingLaws.{counted_more, counted_then, counts_err, counts_more, counts_ok, counts_then}
use Rattle.bdd_ops.proofs.WithinLaws.{within_same}
use Rattle.bdd_ops.specs.Counting.{Counts}
use Rattle.circuit_faults.proofs.NetLaws.{nowhere}
use Rattle.circuit_faults.proofs.SmallFaults.{float_back, inner_stays}
use Rattle.circuit_faults.specs.Scans.{fight_of}
use Rattle.part_functions.proofs.ComposeLaws.{within_kept}
use Rattle.part_functions.specs.Inner.{composed_of}
use Rattle.circuit_faults.proofs.small.small_fault.Goals as goal

pub floating-requires : goal.floating-requires
floating-requires c =
    let old = c.args.store.now in
    let mid = c.fighting.new.store in
    let adds = c.in-Ok.ensures.adds in
    let live = c.requires.0 in
    let longer = adds.longer in (
      omega (arith, live, longer),
      inner_stays c.args.functions old mid adds c.requires.1.there c.args.zero c.requires.1,
      inner_stays c.args.functions old mid adds c.requires.1.there c.args.one c.requires.2,
    )

pub returns-then-not-seen-clause-gives : goal.returns-then-not-seen-clause-gives
returns-then-not-seen-clause-gives c = record {
  fight = nowhere c.fighting.new.store c.in-Ok.fight (fight_of (function_of c.args.store.now c.args.care) (composed_of c.args.functions c.args.store.now (function_of c.args.store.now c.args.zero)) (composed_of c.args.functions c.args.store.now (function_of c.args.store.now c.args.one))) c.in-Ok.ensures.is c.if-fight-ne0.false;
  float = λ seen v. absurd (false≢true (sym c.if-not-seen.true ∙ seen));
}

pub returns-then-float-ne0-clause-gives : goal.returns-then-float-ne0-clause-gives
returns-then-float-ne0-clause-gives c = (
  refl,
  (
    c.if-not-seen.false,
    nowhere c.fighting.new.store c.in-Ok.fight (fight_of (function_of c.args.store.now c.args.care) (composed_of c.args.functions c.args.store.now (function_of c.args.store.now c.args.zero)) (composed_of c.args.functions c.args.store.now (function_of c.args.store.now c.args.one))) c.in-Ok.ensures.is c.if-fight-ne0.false,
    float_back c.args.functions c.args.store.now c.fighting.new.store c.floating.new.store c.args.care c.args.zero c.args.one c.in-Ok-floating.float c.in-Ok.ensures.adds c.requires.0 c.requires.1 c.requires.2
        c.in-Ok-floating.ensures.is,
    c.if-float-ne0.true,
  ),
)

pub returns-in-Err-clause-counts : goal.returns-in-Err-clause-counts
returns-in-Err-clause-counts c u few care reads =
    let n = c.args.functions.count in
    let old = c.args.store.now in
    let mid = c.fighting.new.store in
    let more : Counts {A = H} u (2 * 2 ^ n + 3) old mid (Err c.in-Err.spent) = counts_more u (2 ^ n + 1) (2 * 2 ^ n + 3) old mid (Err c.in-Err.spent) (omega arith) (c.in-Err.ensures.counts u few care reads) in
    counts_err u (2 * 2 ^ n + 3) old mid c.in-Err.spent more

pub returns-then-fight-ne0-clause-counts : goal.returns-then-fight-ne0-clause-counts
returns-then-fight-ne0-clause-counts c u few care reads =
    let n = c.args.functions.count in
    let old = c.args.store.now in
    let mid = c.fighting.new.store in
    counts_ok u (2 * 2 ^ n + 3) old mid _ (counted_more u (2 ^ n + 1) (2 * 2 ^ n + 3) old mid (omega arith) (c.in-Ok.ensures.counts u few care reads).added)

pub returns-then-not-seen-clause-counts : goal.returns-then-not-seen-clause-counts
returns-then-not-seen-clause-counts c u few care reads =
    let n = c.args.functions.count in
    let old = c.args.store.now in
    let mid = c.fighting.new.store in
    counts_ok u (2 * 2 ^ n + 3) old mid _ (counted_more u (2 ^ n + 1) (2 * 2 ^ n + 3) old mid (omega arith) (c.in-Ok.ensures.counts u few care reads).added)

pub returns-in-Err-floating-clause-counts : goal.returns-in-Err-floating-clause-counts
returns-in-Err-floating-clause-counts c u few care reads =
    let n = c.args.functions.count in
    let old = c.args.store.now in
    let mid = c.fighting.new.store in
    let new = c.floating.new.store in
    let adds = c.in-Ok.ensures.adds in
    let care_mid = within_same u (function_of old c.args.care) (function_of mid c.args.care) (adds.kept c.args.care.0 c.requires.0) care in
    let reads_mid = within_kept c.args.functions old mid old.words adds c.requires.1.there u reads in
    let more : Counts {A = H} u (2 * 2 ^ n + 3) old new (Err c.in-Err-floating.spent) =
    counts_more u ((2 ^ n + 1) + (2 ^ n + 2)) (2 * 2 ^ n + 3) old new (Err c.in-Err-floating.spent) (omega arith)
    (counts_then u (2 ^ n + 1) (2 ^ n + 2) old mid new (Err c.in-Err-floating.spent) (c.in-Ok.ensures.counts u few care reads).added (c.in-Err-floating.ensures.counts u few care_mid reads_mid)) in
    counts_err u (2 * 2 ^ n + 3) old new c.in-Err-floating.spent more

pub returns-then-float-ne0-clause-counts : goal.returns-then-float-ne0-clause-counts
returns-then-float-ne0-clause-counts c u few care reads =
    let n = c.args.functions.count in
    let old = c.args.store.now in
    let mid = c.fighting.new.store in
    let new = c.floating.new.store in
    let adds = c.in-Ok.ensures.adds in
    let care_mid = within_same u (function_of old c.args.care) (function_of mid c.args.care) (adds.kept c.args.care.0 c.requires.0) care in
    let reads_mid = within_kept c.args.functions old mid old.words adds c.requires.1.there u reads in
    counts_ok u (2 * 2 ^ n + 3) old new _
    (counted_more u ((2 ^ n + 1) + (2 ^ n + 2)) (2 * 2 ^ n + 3) old new (omega arith)
    (counted_then u (2 ^ n + 1) (2 ^ n + 2) old mid new (c.in-Ok.ensures.counts u few care reads).added (c.in-Ok-floating.ensures.counts u few care_mid reads_mid).added))

pub returns-clause-counts : goal.returns-clause-counts
returns-clause-counts c u few care reads =
    let n = c.args.functions.count in
    let old = c.args.store.now in
    let mid = c.fighting.new.store in
    let new = c.floating.new.store in
    let adds = c.in-Ok.ensures.adds in
    let care_mid = within_same u (function_of old c.args.care) (function_of mid c.args.care) (adds.kept c.args.care.0 c.requires.0) care in
    let reads_mid = within_kept c.args.functions old mid old.words adds c.requires.1.there u reads in
    counts_ok u (2 * 2 ^ n + 3) old new _
    (counted_more u ((2 ^ n + 1) + (2 ^ n + 2)) (2 * 2 ^ n + 3) old new (omega arith)
    (counted_then u (2 ^ n + 1) (2 ^ n + 2) old mid new (c.in-Ok.ensures.counts u few care reads).added (c.in-Ok-floating.ensures.counts u few care_mid reads_mid).added))
