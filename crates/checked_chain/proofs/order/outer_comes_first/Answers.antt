use Rattle.checked_chain.proofs.OrderLaws.{outer_comes_first}
use Rattle.checked_chain.proofs.order.outer_comes_first.Goals as goal

pub returns : goal.returns
returns c = outer_comes_first
