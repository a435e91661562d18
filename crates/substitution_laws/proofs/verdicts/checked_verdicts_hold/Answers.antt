use Rattle.substitution_laws.proofs.VerdictLaws.{checked_verdicts_hold}
use Rattle.substitution_laws.proofs.verdicts.checked_verdicts_hold.Goals as goal

pub returns : goal.returns
returns c = checked_verdicts_hold
