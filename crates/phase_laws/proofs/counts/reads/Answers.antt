use Rattle.phase_laws.proofs.Work.{filled_within, live_within}
use Rattle.phase_laws.proofs.counts.reads.Goals as goal

pub returns-clause-live : goal.returns-clause-live
returns-clause-live c = live_within

pub returns-clause-filled : goal.returns-clause-filled
returns-clause-filled c = filled_within
