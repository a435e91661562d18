use Rattle.whole_ranks.proofs.DefinedLaws.{solutions_are_defined}
use Rattle.whole_ranks.proofs.defined.solutions_are_defined.Goals as goal

pub returns : goal.returns
returns c = solutions_are_defined
