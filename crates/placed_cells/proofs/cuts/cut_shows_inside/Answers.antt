use Rattle.placed_cells.proofs.CutLaws.{cut_shows_inside}
use Rattle.placed_cells.proofs.cuts.cut_shows_inside.Goals as goal

pub returns : goal.returns
returns c = cut_shows_inside
