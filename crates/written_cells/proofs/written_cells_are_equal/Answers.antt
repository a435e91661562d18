use Rattle.written_cells.proofs.WrittenComparisons.{written_cells_are_equal}
use Rattle.written_cells.proofs.written_cells_are_equal.Goals as goal

pub returns : goal.returns
returns c = written_cells_are_equal
