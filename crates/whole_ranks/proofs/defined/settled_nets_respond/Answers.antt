use Rattle.whole_ranks.proofs.DefinedLaws.{settled_nets_respond}
use Rattle.whole_ranks.proofs.defined.settled_nets_respond.Goals as goal

pub returns : goal.returns
returns c = settled_nets_respond
