use Rattle.cell_inside.proofs.PlacedLaws.{placed_cell_stands_alone}
use Rattle.cell_inside.proofs.inside.placed_cell_stands_alone.Goals as goal

pub returns : goal.returns
returns c = placed_cell_stands_alone
