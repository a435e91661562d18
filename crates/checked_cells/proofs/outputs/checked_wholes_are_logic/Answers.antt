use Rattle.checked_cells.proofs.WholeLaws.{checked_wholes_are_logic}
use Rattle.checked_cells.proofs.outputs.checked_wholes_are_logic.Goals as goal

pub returns : goal.returns
returns c = checked_wholes_are_logic
