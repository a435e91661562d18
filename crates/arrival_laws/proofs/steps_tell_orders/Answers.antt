use Rattle.arrival_laws.proofs.StepLaws.{steps_tell_orders}
use Rattle.arrival_laws.proofs.steps_tell_orders.Goals as goal

pub returns : goal.returns
returns c = steps_tell_orders
