use Rattle.substitution_laws.proofs.OrderedLaws.{chain_circuits_are_ordered}
use Rattle.substitution_laws.proofs.first.chain_circuits_are_ordered.Goals as goal

pub returns : goal.returns
returns c = chain_circuits_are_ordered
