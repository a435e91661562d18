use Rattle.checked_cells.proofs.WholeLaws.{checked_wholes_are_determined}
use Rattle.checked_cells.proofs.outputs.checked_wholes_are_determined.Goals as goal

pub returns : goal.returns
returns c = checked_wholes_are_determined
