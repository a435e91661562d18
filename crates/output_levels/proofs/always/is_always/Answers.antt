use Rattle.std.proofs.Common.{Err, Ok}
use Rattle.bdd_core.specs.Diagram.{choice, meaning}
use Rattle.bdd_core.specs.Store.{function_of}
use Rattle.bdd_ops.proofs.CountingLaws.{counts_err, counts_made, counts_value}
use Rattle.bdd_ops.proofs.WithinLaws.{within_choice, within_zero}
use Rattle.output_levels.proofs.AlwaysLaws.{always_test, nodes_ends}
use Rattle.output_levels.proofs.always.is_always.Goals as goal

pub returns-in-Err-clause-few : goal.returns-in-Err-clause-few
returns-in-Err-clause-few c u care f =
    let old = c.args.store.now in
    let new = c.ite.new.self in
    counts_err u 1 old new c.in-Err.spent
    (counts_made u old new c.sound.ensures.sound.ends (choice (function_of old c.args.f) (meaning old.nodes 0) (function_of old c.args.care)) (Err c.in-Err.spent) c.in-Err.ensures.makes
    (within_choice u (function_of old c.args.f) (meaning old.nodes 0) (function_of old c.args.care) f (within_zero u old) care))

pub returns-clause-is : goal.returns-clause-is
returns-clause-is c =
    let made = c.in-Ok.ensures.makes in
    always_test c.args.store.now c.ite.new.self c.args.care c.args.f c.in-Ok.lacks made.canonical (nodes_ends c.ite.new.self made.adds.sound) made.ok

pub returns-clause-few : goal.returns-clause-few
returns-clause-few c u care f =
    let old = c.args.store.now in
    let new = c.ite.new.self in
    counts_value u 1 old new c.in-Ok.lacks _
    (counts_made u old new c.sound.ensures.sound.ends (choice (function_of old c.args.f) (meaning old.nodes 0) (function_of old c.args.care)) (Ok c.in-Ok.lacks) c.in-Ok.ensures.makes
    (within_choice u (function_of old c.args.f) (meaning old.nodes 0) (function_of old c.args.care) f (within_zero u old) care))
