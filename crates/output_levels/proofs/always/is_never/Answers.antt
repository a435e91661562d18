use Rattle.std.proofs.Common.{Err, Ok}
use Rattle.bdd_core.specs.Store.{function_of}
use Rattle.bdd_ops.proofs.CountingLaws.{counts_err, counts_made, counts_value}
use Rattle.bdd_ops.proofs.WithinLaws.{within_and}
use Rattle.bdd_ops.specs.Ops.{and_of}
use Rattle.output_levels.proofs.AlwaysLaws.{never_test, nodes_ends}
use Rattle.output_levels.proofs.always.is_never.Goals as goal

pub returns-in-Err-clause-few : goal.returns-in-Err-clause-few
returns-in-Err-clause-few c u care f =
    let old = c.args.store.now in
    let new = c.and.new.store in
    counts_err u 1 old new c.in-Err.spent
    (counts_made u old new c.sound.ensures.sound.ends (and_of (function_of old c.args.care) (function_of old c.args.f)) (Err c.in-Err.spent) c.in-Err.ensures.makes
    (within_and u (function_of old c.args.care) (function_of old c.args.f) care f))

pub returns-clause-is : goal.returns-clause-is
returns-clause-is c =
    let made = c.in-Ok.ensures.makes in
    never_test c.args.store.now c.and.new.store c.args.care c.args.f c.in-Ok.some made.canonical (nodes_ends c.and.new.store made.adds.sound) made.ok

pub returns-clause-few : goal.returns-clause-few
returns-clause-few c u care f =
    let old = c.args.store.now in
    let new = c.and.new.store in
    counts_value u 1 old new c.in-Ok.some _
    (counts_made u old new c.sound.ensures.sound.ends (and_of (function_of old c.args.care) (function_of old c.args.f)) (Ok c.in-Ok.some) c.in-Ok.ensures.makes
    (within_and u (function_of old c.args.care) (function_of old c.args.f) care f))
