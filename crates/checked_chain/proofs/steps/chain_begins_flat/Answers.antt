use Rattle.checked_chain.proofs.EndLaws.{chain_begins_flat}
use Rattle.checked_chain.proofs.steps.chain_begins_flat.Goals as goal

pub returns : goal.returns
returns c = chain_begins_flat
