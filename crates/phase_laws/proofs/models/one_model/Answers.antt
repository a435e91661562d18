use Rattle.phase_laws.proofs.OneModel.{case_at, has_cases, one_model}
use Rattle.phase_laws.proofs.models.one_model.Goals as goal

pub returns-clause-model : goal.returns-clause-model
returns-clause-model c = one_model

pub returns-clause-case_at : goal.returns-clause-case_at
returns-clause-case_at c = case_at

pub returns-clause-cases : goal.returns-clause-cases
returns-clause-cases c = has_cases
