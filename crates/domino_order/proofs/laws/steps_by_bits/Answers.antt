use Rattle.domino_order.proofs.StepBits.{steps_by_bits}
use Rattle.domino_order.proofs.laws.steps_by_bits.Goals as goal

pub returns : goal.returns
returns c = steps_by_bits
