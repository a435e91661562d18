use Rattle.std.proofs.Common.{Err, subst}
use Rattle.blif_eval.specs.Plans.{PlanGives}
use Rattle.blif_eval.specs.declared.plan.PlanFault.{PlanFault}
use Rattle.phase_plan.proofs.ArcLaws.{model_acyclic, model_cycle}
use Rattle.phase_plan.proofs.CarriedLaws.{carried_outside}
use Rattle.phase_terms.specs.Ready.{comparison_in}
use Rattle.phase_plan.proofs.model_order.model_order.Goals as goal

pub model_plan-requires-clause-outside : goal.model_plan-requires-clause-outside
model_plan-requires-clause-outside c = carried_outside (comparison_in c.args.compared) c.args.phase c.in-Ok.known c.requires.ready.inputs c.in-Ok.ensures

pub returns-in-Ok-model_plan : goal.returns-in-Ok-model_plan
returns-in-Ok-model_plan c =
    let k = comparison_in c.args.compared in
    let known = c.in-Ok.known in
    record {
      known = known;
      carried = c.in-Ok.ensures;
      plan = c.in-Ok-model_plan.ensures;
      acyclic = model_acyclic k c.args.phase c.requires.ready.model known c.in-Ok.ensures c.in-Ok-model_plan.order c.in-Ok-model_plan.ensures;
    }

pub returns-in-Err-ModelCycle : goal.returns-in-Err-ModelCycle
returns-in-Err-ModelCycle c =
    let k = comparison_in c.args.compared in
    let stop = c.in-Err-ModelCycle in
    let cycle = subst (λ (fault : PlanFault). PlanGives k.model c.in-Ok.known (Err fault)) stop.field-0-is stop.ensures in
    (c.requires.acyclic, model_cycle k c.args.phase c.requires.ready.model c.in-Ok.known c.in-Ok.ensures stop.signals cycle)
