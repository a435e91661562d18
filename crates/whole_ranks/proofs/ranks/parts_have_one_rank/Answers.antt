use Rattle.whole_ranks.proofs.RankLaws.{parts_have_one_rank}
use Rattle.whole_ranks.proofs.ranks.parts_have_one_rank.Goals as goal

pub returns : goal.returns
returns c = parts_have_one_rank
