-- Variables before plans.
use Rattle.cell_room.proofs.WorkLaws.{planned, plans_stop, vars_stop}
use Rattle.phase_terms.specs.Ready.{comparison_in}
use Rattle.cell_room.proofs.works.work_out.Goals as goal

pub add_vars-requires-clause-phases : goal.add_vars-requires-clause-phases
add_vars-requires-clause-phases c = c.requires.ready.rules.phase_limit

pub add_plans-requires-clause-phases : goal.add_plans-requires-clause-phases
add_plans-requires-clause-phases c = c.requires.ready.rules.phase_limit

pub returns-in-Ok-add_plans : goal.returns-in-Ok-add_plans
returns-in-Ok-add_plans c =
    (c.in-Ok.ensures, c.in-Ok-add_plans.ensures, planned (comparison_in c.args.compared) c.add_vars.new.vars c.add_plans.new.plans c.in-Ok.ensures c.in-Ok-add_plans.ensures)

pub returns-in-Err-add_plans : goal.returns-in-Err-add_plans
returns-in-Err-add_plans c =
    plans_stop (comparison_in c.args.compared) c.add_vars.new.vars c.in-Err-add_plans.stop c.in-Ok.ensures c.in-Err-add_plans.ensures

pub returns-in-Err : goal.returns-in-Err
returns-in-Err c = vars_stop (comparison_in c.args.compared) c.in-Err.stop c.in-Err.ensures
