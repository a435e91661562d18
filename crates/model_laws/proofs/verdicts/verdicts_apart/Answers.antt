use Rattle.model_laws.proofs.VerdictLaws.{equal_not_vacuous}
use Rattle.model_laws.proofs.verdicts.verdicts_apart.Goals as goal

pub returns-clause-met : goal.returns-clause-met
returns-clause-met c = equal_not_vacuous
