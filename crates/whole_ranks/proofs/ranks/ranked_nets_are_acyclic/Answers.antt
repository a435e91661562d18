use Rattle.whole_ranks.proofs.RankLaws.{ranked_nets_are_acyclic}
use Rattle.whole_ranks.proofs.ranks.ranked_nets_are_acyclic.Goals as goal

pub returns : goal.returns
returns c = ranked_nets_are_acyclic
