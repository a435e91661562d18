use Rattle.cell_inside.proofs.DepthLaws.{deeper_is_same}
use Rattle.cell_inside.proofs.places.deeper_is_same.Goals as goal

pub returns : goal.returns
returns c = deeper_is_same
