use Rattle.placed_cells.proofs.AboveLaws.{instances_are_shifted}
use Rattle.placed_cells.proofs.above.instances_are_shifted.Goals as goal

pub returns : goal.returns
returns c = instances_are_shifted
