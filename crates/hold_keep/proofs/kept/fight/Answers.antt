use Rattle.std.proofs.Common.{Err, Ok, arith, refl}
use Rattle.bdd_core.specs.Diagram.{Function}
use Rattle.bdd_core.specs.Store.{function_of, Gives}
use Rattle.bdd_ops.proofs.CountingLaws.{counts_made, counts_more, counts_then}
use Rattle.bdd_ops.proofs.WithinLaws.{within_and, within_same}
use Rattle.bdd_ops.specs.Ops.{and_of}
use Rattle.bdd_core.proofs.Frames.{gives_made, gives_error}
use Rattle.hold_keep.proofs.KeptLaws.{fight_last, reads_after}
use Rattle.hold_keep.specs.Kept.{fight_of}
use Rattle.hold_keep.proofs.kept.fight.Goals as goal

pub returns-in-Err-clause-gives : goal.returns-in-Err-clause-gives
returns-in-Err-clause-gives c =
    let old = c.args.store.now in
    let new = c.and.new.store in
    let f : Function = and_of (function_of old c.args.zero) (function_of old c.args.one) in
    gives_error old new f (fight_of (function_of old c.args.care) (function_of old c.args.zero) (function_of old c.args.one)) c.in-Err.spent
    (gives_made old new f f (Err c.in-Err.spent) (λ v. refl) c.in-Err.ensures.makes)

pub returns-in-Err-clause-counts : goal.returns-in-Err-clause-counts
returns-in-Err-clause-counts c u care zero one =
    let old = c.args.store.now in
    let f : Function = function_of old c.args.zero in
    let g : Function = function_of old c.args.one in
    counts_more u 1 2 old c.and.new.store (Err c.in-Err.spent) (omega arith)
    (counts_made u old c.and.new.store c.sound.ensures.sound.ends (and_of f g) (Err c.in-Err.spent) c.in-Err.ensures.makes (within_and u f g zero one))

pub returns-clause-gives : goal.returns-clause-gives
returns-clause-gives c =
    let old = c.args.store.now in
    let mid = c.and.new.store in
    let new = c.and-2.new.store in
    let f : Function = and_of (function_of old c.args.zero) (function_of old c.args.one) in
    let both : Function = and_of (function_of mid c.args.care) (function_of mid c.in-Ok.both) in
    fight_last old mid new c.args.care c.args.zero c.args.one c.in-Ok.both c.and-2.result c.requires.0
    (gives_made old mid f f (Ok c.in-Ok.both) (λ v. refl) c.in-Ok.ensures.makes)
    (gives_made mid new both both c.and-2.result (λ v. refl) c.and-2.ensures.makes)

pub returns-clause-counts : goal.returns-clause-counts
returns-clause-counts c u care zero one =
    let old = c.args.store.now in
    let mid = c.and.new.store in
    let new = c.and-2.new.store in
    let f : Function = function_of old c.args.zero in
    let g : Function = function_of old c.args.one in
    let first : Gives old mid (and_of f g) (Ok c.in-Ok.both) = gives_made old mid (and_of f g) (and_of f g) (Ok c.in-Ok.both) (λ v. refl) c.in-Ok.ensures.makes in
    let one_count = counts_made u old mid c.sound.ensures.sound.ends (and_of f g) (Ok c.in-Ok.both) c.in-Ok.ensures.makes (within_and u f g zero one) in
    let care_in = reads_after old mid (and_of f g) (Ok c.in-Ok.both) first u c.args.care c.requires.0 care in
    let both_in = within_same u (and_of f g) (function_of mid c.in-Ok.both) first.ok.same (within_and u f g zero one) in
    counts_then u 1 1 old mid new c.and-2.result one_count.added
    (counts_made u mid new first.adds.sound.ends (and_of (function_of mid c.args.care) (function_of mid c.in-Ok.both)) c.and-2.result c.and-2.ensures.makes
    (within_and u (function_of mid c.args.care) (function_of mid c.in-Ok.both) care_in both_in))
