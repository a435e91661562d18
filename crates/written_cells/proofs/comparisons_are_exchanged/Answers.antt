use Rattle.written_cells.proofs.WrittenComparisons.{comparisons_are_exchanged}
use Rattle.written_cells.proofs.comparisons_are_exchanged.Goals as goal

pub returns : goal.returns
returns c = comparisons_are_exchanged
