use Rattle.whole_solutions.proofs.RankedRegions.{ranks_give_regions}
use Rattle.whole_solutions.proofs.ranked.ranks_give_regions.Goals as goal

pub returns : goal.returns
returns c = ranks_give_regions
