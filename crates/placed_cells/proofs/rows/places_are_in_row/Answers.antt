use Rattle.placed_cells.proofs.RowLaws.{places_are_in_row}
use Rattle.placed_cells.proofs.rows.places_are_in_row.Goals as goal

pub returns : goal.returns
returns c = places_are_in_row
