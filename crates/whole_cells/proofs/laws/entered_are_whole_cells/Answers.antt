use Rattle.whole_cells.proofs.EnteredLaws.{entered_are_whole_cells}
use Rattle.whole_cells.proofs.laws.entered_are_whole_cells.Goals as goal

pub returns : goal.returns
returns c = entered_are_whole_cells
