use Rattle.replaced_cells.proofs.PrintedLaws.{printed_values_are_same}
use Rattle.replaced_cells.proofs.faults.printed_values_are_same.Goals as goal

pub returns : goal.returns
returns c = printed_values_are_same
