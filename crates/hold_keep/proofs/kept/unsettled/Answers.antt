use Rattle.std.proofs.Common.{Err, Ok, arith, refl}
use Rattle.bdd_core.specs.Diagram.{Function, IsWithin}
use Rattle.bdd_core.specs.Store.{function_of}
use Rattle.bdd_ops.proofs.CountingLaws.{counts_made, counts_more, counts_then}
use Rattle.bdd_ops.proofs.WithinLaws.{within_and, within_same}
use Rattle.bdd_ops.specs.Ops.{and_of}
use Rattle.bdd_core.proofs.Frames.{gives_made, gives_error}
use Rattle.hold_keep.proofs.KeptLaws.{fails_within, reads_after, unsettled_last}
use Rattle.hold_keep.specs.Kept.{fails_of, unsettled_of}
use Rattle.hold_keep.proofs.kept.unsettled.Goals as goal

pub returns-in-Err-clause-gives : goal.returns-in-Err-clause-gives
returns-in-Err-clause-gives c =
    let old = c.args.store.now in
    gives_error old c.fails.new.store (fails_of (function_of old c.args.wanted) (function_of old c.args.zero) (function_of old c.args.one))
    (unsettled_of (function_of old c.args.care) (function_of old c.args.wanted) (function_of old c.args.zero) (function_of old c.args.one)) c.in-Err.spent c.in-Err.ensures.gives

pub returns-in-Err-clause-counts : goal.returns-in-Err-clause-counts
returns-in-Err-clause-counts c u care wanted zero one =
    counts_more u 3 4 c.args.store.now c.fails.new.store (Err c.in-Err.spent) (omega arith) (c.in-Err.ensures.counts u wanted zero one)

pub returns-clause-gives : goal.returns-clause-gives
returns-clause-gives c =
    let old = c.args.store.now in
    let mid = c.fails.new.store in
    let both : Function = and_of (function_of mid c.args.care) (function_of mid c.in-Ok.fails) in
    unsettled_last old mid c.and.new.store c.args.care c.args.wanted c.args.zero c.args.one c.in-Ok.fails c.and.result c.requires.0 c.in-Ok.ensures.gives
    (gives_made mid c.and.new.store both both c.and.result (λ v. refl) c.and.ensures.makes)

pub returns-clause-counts : goal.returns-clause-counts
returns-clause-counts c u care wanted zero one =
    let old = c.args.store.now in
    let mid = c.fails.new.store in
    let first = c.in-Ok.ensures.gives in
    let w : Function = function_of old c.args.wanted in
    let f : Function = function_of old c.args.zero in
    let g : Function = function_of old c.args.one in
    let care_in : IsWithin u (function_of mid c.args.care) = reads_after old mid (fails_of w f g) (Ok c.in-Ok.fails) first u c.args.care c.requires.0 care in
    let fails_in : IsWithin u (function_of mid c.in-Ok.fails) = within_same u (fails_of w f g) (function_of mid c.in-Ok.fails) first.ok.same (fails_within u w f g wanted zero one) in
    counts_then u 3 1 old mid c.and.new.store c.and.result (c.in-Ok.ensures.counts u wanted zero one).added
    (counts_made u mid c.and.new.store first.adds.sound.ends (and_of (function_of mid c.args.care) (function_of mid c.in-Ok.fails)) c.and.result c.and.ensures.makes
    (within_and u (function_of mid c.args.care) (function_of mid c.in-Ok.fails) care_in fails_in))
