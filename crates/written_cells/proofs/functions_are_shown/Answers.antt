use Rattle.written_cells.proofs.OutputLaws.{functions_are_shown}
use Rattle.written_cells.proofs.functions_are_shown.Goals as goal

pub returns : goal.returns
returns c = functions_are_shown
