use Rattle.cell_inside.proofs.RootLaws.{whole_stands_for_cell}
use Rattle.cell_inside.proofs.roots.whole_stands_for_cell.Goals as goal

pub returns : goal.returns
returns c = whole_stands_for_cell
