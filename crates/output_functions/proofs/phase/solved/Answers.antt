use Rattle.std.proofs.Common.{◌+◌, ap}
use Rattle.bdd_core.specs.Store.{Diagrams}
use Rattle.output_functions.proofs.Between.{solved_gives, solved_spent}
use Rattle.phase_terms.specs.Opened.{opened_operations}
use Rattle.phase_terms.specs.Ready.{comparison_in}
use Rattle.output_functions.proofs.phase.solved.Goals as goal

pub returns-in-Ok-None-clause-gives : goal.returns-in-Ok-None-clause-gives
returns-in-Ok-None-clause-gives c made between =
    let opening = c.args.opening in
    let k = comparison_in opening.compared in
    solved_gives k opening.phase c.args.store.now.budget made opening.plan.now c.in-Ok.care opening.words c.opened.new.store c.solve_bare.new.store c.in-Ok-None.field-0 c.in-Ok-None.field-0-is
    (c.in-Ok-None.ensures.gives (made + opened_operations k opening.phase) (c.in-Ok.ensures.gives made between))

pub returns-in-Err-solve_bare-clause-gives : goal.returns-in-Err-solve_bare-clause-gives
returns-in-Err-solve_bare-clause-gives c made between =
    let opening = c.args.opening in
    let k = comparison_in opening.compared in
    solved_spent k opening.phase c.args.store.now.budget made opening.plan.now c.in-Ok.care opening.words c.opened.new.store c.solve_bare.new.store
    (ap (λ (d : Diagrams). d.budget) c.in-Ok.ensures.adds.rest) c.in-Err-solve_bare.field-0
    (c.in-Err-solve_bare.ensures.gives (made + opened_operations k opening.phase) (c.in-Ok.ensures.gives made between))
