use Rattle.fault_places.proofs.Floats.{floats_are_plain}
use Rattle.fault_places.proofs.orders.floats_are_plain.Goals as goal

pub returns : goal.returns
returns c = floats_are_plain
