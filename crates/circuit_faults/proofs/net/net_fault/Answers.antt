use Rattle.std.proofs.Common.{Err, arith, refl, sym, ◌∙◌}
use Rattle.std.proofs.lemmas.Bool.{false≢true}
use Rattle.bdd_core.specs.Store.{function_of}
use Rattle.bdd_core.specs.declared.handle.H.{H}
use Rattle.bdd_ops.proofs.CountingLaws.{counted_more, counted_then, counts_err, counts_more, counts_ok, counts_then}
use Rattle.bdd_ops.specs.Counting.{Counts}
use Rattle.circuit_faults.proofs.CountLaws.{kept_within}
use Rattle.circuit_faults.proofs.NetLaws.{float_means, nowhere}
use Rattle.circuit_faults.specs.Scans.{fight_of}
use Rattle.circuit_faults.proofs.net.net_fault.Goals as goal

pub returns-then-not-seen-clause-gives : goal.returns-then-not-seen-clause-gives
returns-then-not-seen-clause-gives c =
    let fight = fight_of (function_of c.args.store.now c.args.care) (function_of c.args.store.now c.args.zero) (function_of c.args.store.now c.args.one) in
    record {
      fight = nowhere c.fighting.new.store c.in-Ok.fight fight c.in-Ok.ensures.is c.if-fight-ne0.false;
      float = λ seen v. absurd (false≢true (sym c.if-not-seen.true ∙ seen));
    }

pub returns-then-float-ne0-clause-gives : goal.returns-then-float-ne0-clause-gives
returns-then-float-ne0-clause-gives c =
    let fight = fight_of (function_of c.args.store.now c.args.care) (function_of c.args.store.now c.args.zero) (function_of c.args.store.now c.args.one) in (
      refl,
      (
        c.if-not-seen.false,
        nowhere c.fighting.new.store c.in-Ok.fight fight c.in-Ok.ensures.is c.if-fight-ne0.false,
        float_means c.args.store.now c.fighting.new.store c.args.care c.args.zero c.args.one c.in-Ok.ensures.adds c.requires.0 c.requires.1 c.requires.2 c.floating.new.store c.in-Ok-floating.float c.in-Ok-floating.ensures.is,
        c.if-float-ne0.true,
      ),
    )

pub returns-in-Err-clause-counts : goal.returns-in-Err-clause-counts
returns-in-Err-clause-counts c u care zero one =
    let old = c.args.store.now in
    let mid = c.fighting.new.store in
    let more : Counts {A = H} u 4 old mid (Err c.in-Err.spent) = counts_more u 2 4 old mid (Err c.in-Err.spent) (omega arith) (c.in-Err.ensures.counts u care zero one) in
    counts_err u 4 old mid c.in-Err.spent more

pub returns-then-fight-ne0-clause-counts : goal.returns-then-fight-ne0-clause-counts
returns-then-fight-ne0-clause-counts c u care zero one =
    let old = c.args.store.now in
    let mid = c.fighting.new.store in
    counts_ok u 4 old mid _ (counted_more u 2 4 old mid (omega arith) (c.in-Ok.ensures.counts u care zero one).added)

pub returns-then-not-seen-clause-counts : goal.returns-then-not-seen-clause-counts
returns-then-not-seen-clause-counts c u care zero one =
    let old = c.args.store.now in
    let mid = c.fighting.new.store in
    counts_ok u 4 old mid _ (counted_more u 2 4 old mid (omega arith) (c.in-Ok.ensures.counts u care zero one).added)

pub returns-in-Err-floating-clause-counts : goal.returns-in-Err-floating-clause-counts
returns-in-Err-floating-clause-counts c u care zero one =
    let old = c.args.store.now in
    let mid = c.fighting.new.store in
    let new = c.floating.new.store in
    let adds = c.in-Ok.ensures.adds in
    let more : Counts {A = H} u 4 old new (Err c.in-Err-floating.spent) =
    counts_then u 2 2 old mid new (Err c.in-Err-floating.spent) (c.in-Ok.ensures.counts u care zero one).added
    (c.in-Err-floating.ensures.counts u (kept_within u old mid c.args.care adds c.requires.0 care) (kept_within u old mid c.args.zero adds c.requires.1 zero) (kept_within u old mid c.args.one adds c.requires.2 one)) in
    counts_err u 4 old new c.in-Err-floating.spent more

pub returns-then-float-ne0-clause-counts : goal.returns-then-float-ne0-clause-counts
returns-then-float-ne0-clause-counts c u care zero one =
    let old = c.args.store.now in
    let mid = c.fighting.new.store in
    let new = c.floating.new.store in
    let adds = c.in-Ok.ensures.adds in
    counts_ok u 4 old new _
    (counted_then u 2 2 old mid new (c.in-Ok.ensures.counts u care zero one).added
    (c.in-Ok-floating.ensures.counts u (kept_within u old mid c.args.care adds c.requires.0 care) (kept_within u old mid c.args.zero adds c.requires.1 zero) (kept_within u old mid c.args.one adds c.requires.2 one)).added)

pub returns-clause-counts : goal.returns-clause-counts
returns-clause-counts c u care zero one =
    let old = c.args.store.now in
    let mid = c.fighting.new.store in
    let new = c.floating.new.store in
    let adds = c.in-Ok.ensures.adds in
    counts_ok u 4 old new _
    (counted_then u 2 2 old mid new (c.in-Ok.ensures.counts u care zero one).added
    (c.in-Ok-floating.ensures.counts u (kept_within u old mid c.args.care adds c.requires.0 care) (kept_within u old mid c.args.zero adds c.requires.1 zero) (kept_within u old mid c.args.one adds c.requires.2 one)).added)
