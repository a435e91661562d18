use Rattle.phase_laws.proofs.OneModel.{from_assigned, to_assigned}
use Rattle.phase_laws.proofs.models.assigned.Goals as goal

pub returns-clause-to : goal.returns-clause-to
returns-clause-to c = to_assigned

pub returns-clause-from : goal.returns-clause-from
returns-clause-from c = from_assigned
