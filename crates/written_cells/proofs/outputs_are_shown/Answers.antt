use Rattle.written_cells.proofs.OutputLaws.{outputs_are_shown}
use Rattle.written_cells.proofs.outputs_are_shown.Goals as goal

pub returns : goal.returns
returns c = outputs_are_shown
