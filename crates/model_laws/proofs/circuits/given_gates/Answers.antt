use Rattle.vrt_model.proofs.GatesGiven.{one_solution}
use Rattle.model_laws.proofs.circuits.given_gates.Goals as goal

pub returns-clause-one : goal.returns-clause-one
returns-clause-one c = one_solution
