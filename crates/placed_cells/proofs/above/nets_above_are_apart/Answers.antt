use Rattle.placed_cells.proofs.AboveLaws.{nets_above_are_apart}
use Rattle.placed_cells.proofs.above.nets_above_are_apart.Goals as goal

pub returns : goal.returns
returns c = nets_above_are_apart
