use Rattle.replaced_cells.proofs.LevelLaws.{levels_go_down}
use Rattle.replaced_cells.proofs.levels.levels_go_down.Goals as goal

pub returns : goal.returns
returns c = levels_go_down
