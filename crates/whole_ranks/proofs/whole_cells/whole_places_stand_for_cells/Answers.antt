use Rattle.whole_ranks.proofs.PlaceLaws.{whole_places_stand_for_cells}
use Rattle.whole_ranks.proofs.whole_cells.whole_places_stand_for_cells.Goals as goal

pub returns : goal.returns
returns c = whole_places_stand_for_cells
