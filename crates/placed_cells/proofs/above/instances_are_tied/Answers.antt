use Rattle.placed_cells.proofs.TieLaws.{instances_are_tied}
use Rattle.placed_cells.proofs.above.instances_are_tied.Goals as goal

pub returns : goal.returns
returns c = instances_are_tied
