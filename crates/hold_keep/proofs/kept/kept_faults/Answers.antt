use Rattle.std.proofs.Common.{Err, Ok, arith}
use Rattle.bdd_core.specs.Diagram.{Function}
use Rattle.bdd_core.specs.Store.{function_of}
use Rattle.bdd_ops.proofs.CountingLaws.{counts_err, counts_more, counts_then, counts_value}
use Rattle.bdd_core.specs.declared.handle.H.{H}
use Rattle.hold_keep.proofs.KeptLaws.{both_given, kept_refused, reads_after, second_refused}
use Rattle.hold_keep.specs.Kept.{fight_of, unsettled_of}
use Rattle.hold_keep.proofs.kept.kept_faults.Goals as goal

pub returns-in-Err-clause-gives : goal.returns-in-Err-clause-gives
returns-in-Err-clause-gives c =
    let old = c.args.store.now in
    let f : Function = fight_of (function_of old c.args.care) (function_of old c.args.zero) (function_of old c.args.one) in
    kept_refused old c.fight.new.store f f (unsettled_of (function_of old c.args.care) (function_of old c.args.wanted) (function_of old c.args.zero) (function_of old c.args.one))
    c.in-Err.spent c.in-Err.ensures.gives

pub returns-in-Err-clause-counts : goal.returns-in-Err-clause-counts
returns-in-Err-clause-counts c u care wanted zero one =
    counts_err u {A = H} 20 c.args.store.now c.fight.new.store c.in-Err.spent
    (counts_more u {A = H} 2 20 c.args.store.now c.fight.new.store (Err c.in-Err.spent) (omega arith) (c.in-Err.ensures.counts u care zero one))

pub returns-in-Err-unsettled-clause-gives : goal.returns-in-Err-unsettled-clause-gives
returns-in-Err-unsettled-clause-gives c =
    let old = c.args.store.now in
    let f : Function = fight_of (function_of old c.args.care) (function_of old c.args.zero) (function_of old c.args.one) in
    second_refused old c.fight.new.store c.unsettled.new.store c.args.care c.args.wanted c.args.zero c.args.one c.in-Ok.fight f c.requires.0 c.requires.1 c.requires.2 c.requires.3
    c.in-Ok.ensures.gives c.in-Err-unsettled.spent c.in-Err-unsettled.ensures.gives

pub returns-in-Err-unsettled-clause-counts : goal.returns-in-Err-unsettled-clause-counts
returns-in-Err-unsettled-clause-counts c u care wanted zero one =
    let old = c.args.store.now in
    let mid = c.fight.new.store in
    let f : Function = fight_of (function_of old c.args.care) (function_of old c.args.zero) (function_of old c.args.one) in
    let reads = reads_after old mid f (Ok c.in-Ok.fight) c.in-Ok.ensures.gives u in
    let second = c.in-Err-unsettled.ensures.counts u (reads c.args.care c.requires.0 care) (reads c.args.wanted c.requires.1 wanted) (reads c.args.zero c.requires.2 zero) (reads c.args.one c.requires.3 one) in
    counts_err u {A = H} 20 old c.unsettled.new.store c.in-Err-unsettled.spent
    (counts_more u {A = H} 6 20 old c.unsettled.new.store (Err c.in-Err-unsettled.spent) (omega arith)
    (counts_then u {A = H} 2 4 old mid c.unsettled.new.store (Err c.in-Err-unsettled.spent) (c.in-Ok.ensures.counts u care zero one).added second))

pub returns-clause-gives : goal.returns-clause-gives
returns-clause-gives c =
    let old = c.args.store.now in
    let f : Function = fight_of (function_of old c.args.care) (function_of old c.args.zero) (function_of old c.args.one) in
    both_given old c.fight.new.store c.unsettled.new.store c.args.care c.args.wanted c.args.zero c.args.one c.in-Ok.fight f c.requires.0 c.requires.1 c.requires.2 c.requires.3
    c.in-Ok.ensures.gives c.in-Ok-unsettled.unsettled c.in-Ok-unsettled.ensures.gives

pub returns-clause-counts : goal.returns-clause-counts
returns-clause-counts c u care wanted zero one =
    let old = c.args.store.now in
    let mid = c.fight.new.store in
    let f : Function = fight_of (function_of old c.args.care) (function_of old c.args.zero) (function_of old c.args.one) in
    let reads = reads_after old mid f (Ok c.in-Ok.fight) c.in-Ok.ensures.gives u in
    let second = c.in-Ok-unsettled.ensures.counts u (reads c.args.care c.requires.0 care) (reads c.args.wanted c.requires.1 wanted) (reads c.args.zero c.requires.2 zero) (reads c.args.one c.requires.3 one) in
    counts_value u 20 old c.unsettled.new.store c.in-Ok-unsettled.unsettled _
    (counts_more u {A = H} 6 20 old c.unsettled.new.store (Ok c.in-Ok-unsettled.unsettled) (omega arith)
    (counts_then u {A = H} 2 4 old mid c.unsettled.new.store (Ok c.in-Ok-unsettled.unsettled) (c.in-Ok.ensures.counts u care zero one).added second))
