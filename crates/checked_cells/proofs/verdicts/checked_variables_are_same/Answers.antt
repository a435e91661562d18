use Rattle.checked_cells.proofs.VerdictLaws.{checked_variables_are_same}
use Rattle.checked_cells.proofs.verdicts.checked_variables_are_same.Goals as goal

pub returns : goal.returns
returns c = checked_variables_are_same
