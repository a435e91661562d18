use Rattle.whole_ranks.proofs.DeterminedLaws.{whole_cells_are_determined}
use Rattle.whole_ranks.proofs.whole_cells.whole_cells_are_determined.Goals as goal

pub returns : goal.returns
returns c = whole_cells_are_determined
