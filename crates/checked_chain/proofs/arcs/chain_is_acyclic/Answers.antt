use Rattle.checked_chain.proofs.AcyclicLaws.{chain_is_acyclic}
use Rattle.checked_chain.proofs.arcs.chain_is_acyclic.Goals as goal

pub returns : goal.returns
returns c = chain_is_acyclic
