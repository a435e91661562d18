use Rattle.bdd_core.specs.Diagram.{Function, choice}
use Rattle.bdd_core.specs.Store.{function_of}
use Rattle.bdd_ops.proofs.CountingLaws.{counts_made}
use Rattle.bdd_ops.proofs.WithinLaws.{within_choice}
use Rattle.blif_eval.proofs.choice.choose.Goals as goal

pub returns-then-open_at-clause-counts : goal.returns-then-open_at-clause-counts
returns-then-open_at-clause-counts c u control source held =
    let old = c.args.store.now in
    let f : Function = function_of old c.args.control in
    let g : Function = function_of old c.args.source in
    let h : Function = function_of old c.args.held in
    counts_made u old c.ite.new.self c.sound.ensures.sound.ends (choice f g h) c.ite.result c.ite.ensures.makes (within_choice u f g h control source held)

pub returns-else-open_at-clause-counts : goal.returns-else-open_at-clause-counts
returns-else-open_at-clause-counts c u control source held =
    let old = c.args.store.now in
    let f : Function = function_of old c.args.control in
    let g : Function = function_of old c.args.source in
    let h : Function = function_of old c.args.held in
    counts_made u old c.ite-else-open_at.new.self c.sound.ensures.sound.ends (choice f h g) c.ite-else-open_at.result c.ite-else-open_at.ensures.makes
    (within_choice u f h g control held source)
