use Rattle.substitution_laws.proofs.BudgetLaws.{chain_needs_no_more}
use Rattle.substitution_laws.proofs.verdicts.chain_needs_no_more.Goals as goal

pub returns : goal.returns
returns c = chain_needs_no_more
