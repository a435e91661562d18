use Rattle.std.proofs.Common.{Err, Ok, arith, refl}
use Rattle.bdd_core.specs.Diagram.{Function, choice}
use Rattle.bdd_core.specs.Store.{function_of, Gives}
use Rattle.bdd_ops.proofs.CountingLaws.{counted_then, counts_made, counts_more, counts_then}
use Rattle.bdd_ops.proofs.WithinLaws.{within_choice, within_implies}
use Rattle.bdd_ops.specs.Ops.{implies_of}
use Rattle.bdd_core.proofs.Frames.{gives_made, gives_refused, gives_error}
use Rattle.hold_keep.proofs.KeptLaws.{fails_last, other_reads, reads_after, right_reads}
use Rattle.hold_keep.specs.Kept.{fails_of}
use Rattle.hold_keep.proofs.kept.fails.Goals as goal

pub returns-in-Err-clause-gives : goal.returns-in-Err-clause-gives
returns-in-Err-clause-gives c =
    let old = c.args.store.now in
    let new = c.ite.new.self in
    let f : Function = choice (function_of old c.args.wanted) (function_of old c.args.one) (function_of old c.args.zero) in
    gives_error old new f (fails_of (function_of old c.args.wanted) (function_of old c.args.zero) (function_of old c.args.one)) c.in-Err.spent
    (gives_made old new f f (Err c.in-Err.spent) (λ v. refl) c.in-Err.ensures.makes)

pub returns-in-Err-clause-counts : goal.returns-in-Err-clause-counts
returns-in-Err-clause-counts c u wanted zero one =
    let old = c.args.store.now in
    let w : Function = function_of old c.args.wanted in
    let f : Function = function_of old c.args.zero in
    let g : Function = function_of old c.args.one in
    counts_more u 1 3 old c.ite.new.self (Err c.in-Err.spent) (omega arith)
    (counts_made u old c.ite.new.self c.sound.ensures.sound.ends (choice w g f) (Err c.in-Err.spent) c.in-Err.ensures.makes (within_choice u w g f wanted one zero))

pub returns-in-Err-ite-clause-gives : goal.returns-in-Err-ite-clause-gives
returns-in-Err-ite-clause-gives c =
    let old = c.args.store.now in
    let mid = c.ite.new.self in
    let new = c.ite-2.new.self in
    let f : Function = choice (function_of old c.args.wanted) (function_of old c.args.one) (function_of old c.args.zero) in
    let g : Function = choice (function_of mid c.args.wanted) (function_of mid c.args.zero) (function_of mid c.args.one) in
    gives_refused old mid new f g (fails_of (function_of old c.args.wanted) (function_of old c.args.zero) (function_of old c.args.one)) c.in-Ok.right c.in-Err-ite.spent
    (gives_made old mid f f (Ok c.in-Ok.right) (λ v. refl) c.in-Ok.ensures.makes)
    (gives_made mid new g g (Err c.in-Err-ite.spent) (λ v. refl) c.in-Err-ite.ensures.makes)

pub returns-in-Err-ite-clause-counts : goal.returns-in-Err-ite-clause-counts
returns-in-Err-ite-clause-counts c u wanted zero one =
    let old = c.args.store.now in
    let mid = c.ite.new.self in
    let new = c.ite-2.new.self in
    let w : Function = function_of old c.args.wanted in
    let f : Function = function_of old c.args.zero in
    let g : Function = function_of old c.args.one in
    let right = c.in-Ok.right in
    let made = c.in-Ok.ensures.makes in
    let first : Gives old mid (choice w g f) (Ok right) = gives_made old mid (choice w g f) (choice w g f) (Ok right) (λ v. refl) made in
    let one_count = counts_made u old mid c.sound.ensures.sound.ends (choice w g f) (Ok right) made (within_choice u w g f wanted one zero) in
    let reads = reads_after old mid (choice w g f) (Ok right) first u in
    counts_more u 2 3 old new (Err c.in-Err-ite.spent) (omega arith)
    (counts_then u 1 1 old mid new (Err c.in-Err-ite.spent) one_count.added
    (counts_made u mid new first.adds.sound.ends (choice (function_of mid c.args.wanted) (function_of mid c.args.zero) (function_of mid c.args.one)) (Err c.in-Err-ite.spent) c.in-Err-ite.ensures.makes
    (within_choice u (function_of mid c.args.wanted) (function_of mid c.args.zero) (function_of mid c.args.one)
    (reads c.args.wanted c.requires.0 wanted) (reads c.args.zero c.requires.1 zero) (reads c.args.one c.requires.2 one))))

pub returns-clause-gives : goal.returns-clause-gives
returns-clause-gives c =
    let old = c.args.store.now in
    let mid = c.ite.new.self in
    let next = c.ite-2.new.self in
    let new = c.implies.new.store in
    let f : Function = choice (function_of old c.args.wanted) (function_of old c.args.one) (function_of old c.args.zero) in
    let g : Function = choice (function_of mid c.args.wanted) (function_of mid c.args.zero) (function_of mid c.args.one) in
    let h : Function = implies_of (function_of next c.in-Ok.right) (function_of next c.in-Ok-ite.other) in
    fails_last old mid next new c.args.wanted c.args.zero c.args.one c.in-Ok.right c.in-Ok-ite.other c.implies.result c.requires.0 c.requires.1 c.requires.2
    (gives_made old mid f f (Ok c.in-Ok.right) (λ v. refl) c.in-Ok.ensures.makes)
    (gives_made mid next g g (Ok c.in-Ok-ite.other) (λ v. refl) c.in-Ok-ite.ensures.makes)
    (gives_made next new h h c.implies.result (λ v. refl) c.implies.ensures.makes)

pub returns-clause-counts : goal.returns-clause-counts
returns-clause-counts c u wanted zero one =
    let old = c.args.store.now in
    let mid = c.ite.new.self in
    let next = c.ite-2.new.self in
    let new = c.implies.new.store in
    let w : Function = function_of old c.args.wanted in
    let f : Function = function_of old c.args.zero in
    let g : Function = function_of old c.args.one in
    let w' : Function = function_of mid c.args.wanted in
    let f' : Function = function_of mid c.args.zero in
    let g' : Function = function_of mid c.args.one in
    let right = c.in-Ok.right in
    let other = c.in-Ok-ite.other in
    let first : Gives old mid (choice w g f) (Ok right) = gives_made old mid (choice w g f) (choice w g f) (Ok right) (λ v. refl) c.in-Ok.ensures.makes in
    let second : Gives mid next (choice w' f' g') (Ok other) = gives_made mid next (choice w' f' g') (choice w' f' g') (Ok other) (λ v. refl) c.in-Ok-ite.ensures.makes in
    let reads = reads_after old mid (choice w g f) (Ok right) first u in
    let one_count = counts_made u old mid c.sound.ensures.sound.ends (choice w g f) (Ok right) c.in-Ok.ensures.makes (within_choice u w g f wanted one zero) in
    let two_count = counts_made u mid next first.adds.sound.ends (choice w' f' g') (Ok other) c.in-Ok-ite.ensures.makes
    (within_choice u w' f' g' (reads c.args.wanted c.requires.0 wanted) (reads c.args.zero c.requires.1 zero) (reads c.args.one c.requires.2 one)) in
    let rights = right_reads old mid next new c.args.wanted c.args.zero c.args.one right other c.implies.result c.requires.0 c.requires.1 c.requires.2 first second u wanted zero one in
    let others = other_reads old mid next new c.args.wanted c.args.zero c.args.one right other c.implies.result c.requires.0 c.requires.1 c.requires.2 first second u wanted zero one in
    counts_then u 2 1 old next new c.implies.result (counted_then u 1 1 old mid next one_count.added two_count.added)
    (counts_made u next new second.adds.sound.ends (implies_of (function_of next right) (function_of next other)) c.implies.result c.implies.ensures.makes
    (within_implies u (function_of next right) (function_of next other) rights others))
