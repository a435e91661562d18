use Rattle.phase_laws.proofs.EqualPhase.{vacuous_phase}
use Rattle.phase_laws.proofs.models.vacuous_phase.Goals as goal

pub returns : goal.returns
returns c = vacuous_phase
