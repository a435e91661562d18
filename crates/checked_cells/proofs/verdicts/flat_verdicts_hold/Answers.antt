use Rattle.checked_cells.proofs.VerdictLaws.{flat_verdicts_hold}
use Rattle.checked_cells.proofs.verdicts.flat_verdicts_hold.Goals as goal

pub returns : goal.returns
returns c = flat_verdicts_hold
