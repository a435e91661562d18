use Rattle.substitution_laws.proofs.WholeRanges.{trials_are_wired}
use Rattle.substitution_laws.proofs.wholes.trials_are_wired.Goals as goal

pub returns : goal.returns
returns c = trials_are_wired
