use Rattle.checked_cells.proofs.VerdictLaws.{found_verdicts_hold}
use Rattle.checked_cells.proofs.verdicts.found_verdicts_hold.Goals as goal

pub returns : goal.returns
returns c = found_verdicts_hold
