use Rattle.std.proofs.Common.{List, ◌+◌, get_or, subst, sym}
use Rattle.std.proofs.lemmas.Option.{slice_get-get_or}
use Rattle.blif_eval.specs.declared.plan.ModelPlan.{ModelPlan}
use Rattle.vrt_model.specs.Lists.{At}
use Rattle.vrt_model.specs.declared.whole.Whole.{Whole}
use Rattle.whole_steps.proofs.OrderLaws.{orders_more}
use Rattle.whole_steps.specs.Tables.{AreOrders}
use Rattle.whole_steps.proofs.orders.model_orders.Goals as goal

pub loop-number-preserved : goal.loop-number-preserved
loop-number-preserved c =
    let wholes = c.args.circuit.now.wholes in
    let number = c.loop-number.number in
    let slice = c.as_slice-wholes.result.now in
    let w : Whole = get_or slice number c.index-wholes-number.result in
    let here = subst (λ (xs : List Whole). At xs number w) c.as_slice-wholes.ensures (slice_get-get_or slice number c.index-wholes-number.result c.loop-number-test.true) in
    subst (λ (orders : List ModelPlan). AreOrders wholes (number + 1) orders) (sym c.in-Ok.ensures)
    (orders_more wholes number c.loop-number.orders w c.in_ok-order.order here c.in_ok-order.ensures c.loop-number.invariant)
