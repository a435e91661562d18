use Rattle.phase_laws.proofs.PhaseWork.{phase_work, spent_passes}
use Rattle.phase_laws.proofs.counts.phase_work.Goals as goal

pub returns-clause-within : goal.returns-clause-within
returns-clause-within c = phase_work

pub returns-clause-passes : goal.returns-clause-passes
returns-clause-passes c = spent_passes
