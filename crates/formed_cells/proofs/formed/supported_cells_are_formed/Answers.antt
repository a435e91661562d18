use Rattle.formed_cells.proofs.FormedLaws.{supported_cells_are_formed}
use Rattle.formed_cells.proofs.formed.supported_cells_are_formed.Goals as goal

pub returns : goal.returns
returns c = supported_cells_are_formed
