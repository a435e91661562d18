use Rattle.substitution_laws.proofs.WholeCells.{wholes_stand_for_cells}
use Rattle.substitution_laws.proofs.wholes.wholes_stand_for_cells.Goals as goal

pub returns : goal.returns
returns c = wholes_stand_for_cells
