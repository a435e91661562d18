use Rattle.substitution_laws.proofs.ChainLaws.{chain_is_always_solved}
use Rattle.substitution_laws.proofs.agreement.chain_is_always_solved.Goals as goal

pub returns : goal.returns
returns c = chain_is_always_solved
