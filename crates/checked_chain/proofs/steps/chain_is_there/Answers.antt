use Rattle.checked_chain.proofs.ThereLaws.{chain_is_there}
use Rattle.checked_chain.proofs.steps.chain_is_there.Goals as goal

pub returns : goal.returns
returns c = chain_is_there
