use Rattle.domino_order.proofs.StepBits.{failing_steps}
use Rattle.domino_order.proofs.laws.failing_steps.Goals as goal

pub returns : goal.returns
returns c = failing_steps
