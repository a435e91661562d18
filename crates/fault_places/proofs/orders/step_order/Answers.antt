use Rattle.fault_places.proofs.StepOrder.{step_order}
use Rattle.fault_places.proofs.orders.step_order.Goals as goal

pub returns : goal.returns
returns c = step_order
