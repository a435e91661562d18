use Rattle.placed_cells.proofs.DepthLaws.{ordered_is_within_depth}
use Rattle.placed_cells.proofs.depths.ordered_is_within_depth.Goals as goal

pub returns : goal.returns
returns c = ordered_is_within_depth
