use Rattle.phase_laws.proofs.Work.{may_spend}
use Rattle.phase_laws.proofs.counts.may_spend.Goals as goal

pub returns : goal.returns
returns c = may_spend
