use Rattle.whole_ranks.proofs.SolvedLaws.{known_nets_stand}
use Rattle.whole_ranks.proofs.known.known_nets_stand.Goals as goal

pub returns : goal.returns
returns c = known_nets_stand
