use Rattle.phase_laws.proofs.Firsts.{first_fault}
use Rattle.phase_laws.proofs.places.first_fault.Goals as goal

pub returns : goal.returns
returns c = first_fault
