use Rattle.std.proofs.Common.{subst}
use Rattle.phase_plan.specs.Gives.{Stops}
use Rattle.phase_terms.specs.Ready.{comparison_in}
use Rattle.cell_room.proofs.checked.plan_by.Goals as goal

pub unreachable-requires-in-Err-ModelCycle : goal.unreachable-requires-in-Err-ModelCycle
unreachable-requires-in-Err-ModelCycle c =
    let cycle = subst (Stops (comparison_in c.args.compared) c.args.phase) c.in-Err-ModelCycle.field-0-is (c.in-Err-ModelCycle.ensures).gives in
    c.requires.acyclic c.in-Err-ModelCycle.field-0-0 cycle.1.0
