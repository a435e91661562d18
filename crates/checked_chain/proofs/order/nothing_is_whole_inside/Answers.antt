use Rattle.checked_chain.proofs.OrderLaws.{nothing_is_whole_inside}
use Rattle.checked_chain.proofs.order.nothing_is_whole_inside.Goals as goal

pub returns : goal.returns
returns c = nothing_is_whole_inside
