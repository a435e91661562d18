use Rattle.replaced_cells.proofs.LevelLaws.{levels_come_from_cells}
use Rattle.replaced_cells.proofs.levels.levels_come_from_cells.Goals as goal

pub returns : goal.returns
returns c = levels_come_from_cells
