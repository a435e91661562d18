use Rattle.vrt_model.proofs.Decidable.{some_response, strength_exists}
use Rattle.model_laws.proofs.paths.one_answer.Goals as goal

pub returns-clause-some_strength : goal.returns-clause-some_strength
returns-clause-some_strength c = strength_exists

pub returns-clause-some_response : goal.returns-clause-some_response
returns-clause-some_response c = some_response
