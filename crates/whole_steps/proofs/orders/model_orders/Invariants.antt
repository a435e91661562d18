use Rattle.whole_steps.specs.Tables.{AreOrders}
use Rattle.whole_steps.proofs.orders.model_orders.Given as goal

abbrev pub invariant-loop-number : goal.invariant-loop-number
invariant-loop-number l = AreOrders l.circuit.wholes l.number l.orders
