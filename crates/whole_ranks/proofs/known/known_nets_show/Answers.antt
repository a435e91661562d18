use Rattle.whole_ranks.proofs.KnownLaws.{known_nets_show}
use Rattle.whole_ranks.proofs.known.known_nets_show.Goals as goal

pub returns : goal.returns
returns c = known_nets_show
