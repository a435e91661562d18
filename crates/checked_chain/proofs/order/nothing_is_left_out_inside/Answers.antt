use Rattle.checked_chain.proofs.OrderLaws.{nothing_is_left_out_inside}
use Rattle.checked_chain.proofs.order.nothing_is_left_out_inside.Goals as goal

pub returns : goal.returns
returns c = nothing_is_left_out_inside
