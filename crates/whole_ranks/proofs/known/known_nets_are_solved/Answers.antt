use Rattle.whole_ranks.proofs.KnownLaws.{known_nets_are_solved}
use Rattle.whole_ranks.proofs.known.known_nets_are_solved.Goals as goal

pub returns : goal.returns
returns c = known_nets_are_solved
