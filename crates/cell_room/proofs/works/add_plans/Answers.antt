-- One phase more has a plan, or the first cycle.
use Rattle.std.proofs.Common.{arith, List, ◌+◌, subst, sym}
use Rattle.cell_room.proofs.WorkLaws.{cycle_there, plans_more}
use Rattle.cell_room.specs.Works.{ArePlans}
use Rattle.phase_terms.specs.Ready.{comparison_in}
use Rattle.phase_terms.specs.declared.plan.PhasePlan.{PhasePlan}
use Rattle.cell_room.proofs.works.add_plans.Goals as goal

pub loop-phase-preserved : goal.loop-phase-preserved
loop-phase-preserved c =
    let k = comparison_in c.args.compared in
    subst (λ (plans : List PhasePlan). ArePlans k (c.loop-phase.phase + 1) plans) (sym c.in_ok-append.ensures)
    (plans_more k c.loop-phase.phase c.loop-phase.plans c.in-Ok.plan c.loop-phase.invariant c.in-Ok.ensures)

pub returns-in-Err : goal.returns-in-Err
returns-in-Err c =
    cycle_there (comparison_in c.args.compared) c.loop-phase.phase c.loop-phase.plans c.in-Err.stop (omega (arith, c.loop-phase-test.true, c.requires.phases)) c.loop-phase.invariant c.in-Err.ensures
