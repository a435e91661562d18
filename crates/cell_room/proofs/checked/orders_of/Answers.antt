use Rattle.std.proofs.Common.{Err, subst}
use Rattle.blif_eval.specs.declared.plan.PlanFault.{PlanFault}
use Rattle.whole_steps.specs.Tables.{OrdersGive}
use Rattle.cell_room.proofs.checked.orders_of.Goals as goal

pub unreachable-requires : goal.unreachable-requires
unreachable-requires c =
    let cycle = subst (λ (fault : PlanFault). OrdersGive c.args.circuit.now.wholes (Err fault)) c.in-Err-ModelCycle.field-0-is c.in-Err-ModelCycle.ensures in
    c.requires.acyclic cycle.0 cycle.1 c.in-Err-ModelCycle.field-0-0 cycle.2.0
