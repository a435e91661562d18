use Rattle.checked_cells.proofs.OutputLaws.{checked_outputs_are_allowed}
use Rattle.checked_cells.proofs.outputs.checked_outputs_are_allowed.Goals as goal

pub returns : goal.returns
returns c = checked_outputs_are_allowed
