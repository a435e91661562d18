use Rattle.checked_chain.proofs.EndLaws.{chain_ends_checked}
use Rattle.checked_chain.proofs.steps.chain_ends_checked.Goals as goal

pub returns : goal.returns
returns c = chain_ends_checked
