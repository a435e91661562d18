use Rattle.substitution_laws.proofs.LogicCells.{chosen_cells_are_logic}
use Rattle.substitution_laws.proofs.chosen.chosen_cells_are_logic.Goals as goal

pub returns : goal.returns
returns c = chosen_cells_are_logic
