-- One phase more has few variables, or it is the first with too many.
use Rattle.std.proofs.Common.{arith, List, ◌+◌, subst, sym}
use Rattle.cell_room.proofs.WorkLaws.{many_there, vars_more}
use Rattle.cell_room.specs.Works.{AreVars}
use Rattle.phase_terms.specs.Ready.{comparison_in}
use Rattle.vrt_model.specs.declared.groups.Vars.{Vars}
use Rattle.cell_room.proofs.works.add_vars.Goals as goal

pub loop-phase-preserved : goal.loop-phase-preserved
loop-phase-preserved c =
    let k = comparison_in c.args.compared in
    subst (λ (vars : List Vars). AreVars k (c.loop-phase.phase + 1) vars) (sym c.in_ok-append.ensures)
    (vars_more k c.loop-phase.phase c.loop-phase.vars c.in-Ok.one c.loop-phase.invariant c.in-Ok.ensures)

pub returns-in-Err : goal.returns-in-Err
returns-in-Err c =
    many_there (comparison_in c.args.compared) c.loop-phase.phase c.loop-phase.vars c.in-Err.stop (omega (arith, c.loop-phase-test.true, c.requires.phases)) c.loop-phase.invariant c.in-Err.ensures
