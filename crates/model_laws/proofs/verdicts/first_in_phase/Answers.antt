use Rattle.model_laws.proofs.FirstFinding.{first_in_phase}
use Rattle.model_laws.proofs.verdicts.first_in_phase.Goals as goal

pub returns : goal.returns
returns c = first_in_phase
