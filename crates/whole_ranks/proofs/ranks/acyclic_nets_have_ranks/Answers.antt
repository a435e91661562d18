use Rattle.whole_ranks.proofs.RankLaws.{acyclic_nets_have_ranks}
use Rattle.whole_ranks.proofs.ranks.acyclic_nets_have_ranks.Goals as goal

pub returns : goal.returns
returns c = acyclic_nets_have_ranks
