use Rattle.substitution_laws.proofs.BudgetLaws.{chain_has_no_more_work}
use Rattle.substitution_laws.proofs.verdicts.chain_has_no_more_work.Goals as goal

pub returns : goal.returns
returns c = chain_has_no_more_work
