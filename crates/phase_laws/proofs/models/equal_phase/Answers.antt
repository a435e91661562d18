use Rattle.phase_laws.proofs.EqualPhase.{equal_phase}
use Rattle.phase_laws.proofs.models.equal_phase.Goals as goal

pub returns : goal.returns
returns c = equal_phase
