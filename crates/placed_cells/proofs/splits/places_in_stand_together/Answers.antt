use Rattle.placed_cells.proofs.SplitLaws.{places_in_stand_together}
use Rattle.placed_cells.proofs.splits.places_in_stand_together.Goals as goal

pub returns : goal.returns
returns c = places_in_stand_together
