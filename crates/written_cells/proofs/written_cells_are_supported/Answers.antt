use Rattle.written_cells.proofs.SupportLaws.{written_cells_are_supported}
use Rattle.written_cells.proofs.written_cells_are_supported.Goals as goal

pub returns : goal.returns
returns c = written_cells_are_supported
