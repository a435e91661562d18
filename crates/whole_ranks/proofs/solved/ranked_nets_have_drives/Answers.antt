use Rattle.whole_ranks.proofs.SolvedLaws.{ranked_nets_have_drives}
use Rattle.whole_ranks.proofs.solved.ranked_nets_have_drives.Goals as goal

pub returns : goal.returns
returns c = ranked_nets_have_drives
