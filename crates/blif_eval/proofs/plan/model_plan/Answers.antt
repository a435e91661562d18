use Rattle.std.proofs.Common.{Bool, List, Option, subst, sym}
use Rattle.blif_eval.specs.Plans.{AreOutside, PlanGives, plan_by}
use Rattle.blif_eval.specs.declared.driver_table.Driver.{Driver}
use Rattle.graphs.specs.declared.order.Order.{Order}
use Rattle.blif_eval.proofs.plan.model_plan.Goals as goal

pub planned-requires-clause-outside : goal.planned-requires-clause-outside
planned-requires-clause-outside c = subst (AreOutside c.args.flat.now) (sym c.as_slice.ensures) c.requires.outside

pub returns-in-Ok-Steps : goal.returns-in-Ok-Steps
returns-in-Ok-Steps c =
    let flat = c.args.flat.now in
    subst (λ (o : Order). PlanGives flat c.args.known.now (plan_by c.in-Ok.drivers o)) c.in-Ok-Steps.field-0-is
    (subst (λ (drivers : List Driver). PlanGives flat c.args.known.now (plan_by drivers c.in-Ok-Steps.field-0)) c.as_slice-2.ensures
    (subst (λ (known : List (Option Bool)). PlanGives flat known (plan_by c.as_slice-2.result.now c.in-Ok-Steps.field-0)) c.as_slice.ensures c.in-Ok-Steps.ensures))

pub returns-in-Ok-Cycle : goal.returns-in-Ok-Cycle
returns-in-Ok-Cycle c =
    let flat = c.args.flat.now in
    subst (λ (o : Order). PlanGives flat c.args.known.now (plan_by c.in-Ok.drivers o)) c.in-Ok-Cycle.field-0-is
    (subst (λ (drivers : List Driver). PlanGives flat c.args.known.now (plan_by drivers c.in-Ok-Cycle.field-0)) c.as_slice-2.ensures
    (subst (λ (known : List (Option Bool)). PlanGives flat known (plan_by c.as_slice-2.result.now c.in-Ok-Cycle.field-0)) c.as_slice.ensures c.in-Ok-Cycle.ensures))
