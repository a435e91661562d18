use Rattle.checked_chain.proofs.OrderLaws.{chosen_are_apart}
use Rattle.checked_chain.proofs.order.chosen_are_apart.Goals as goal

pub returns : goal.returns
returns c = chosen_are_apart
