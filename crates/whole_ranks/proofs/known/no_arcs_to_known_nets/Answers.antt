use Rattle.whole_ranks.proofs.KnownLaws.{no_arcs_to_known_nets}
use Rattle.whole_ranks.proofs.known.no_arcs_to_known_nets.Goals as goal

pub returns : goal.returns
returns c = no_arcs_to_known_nets
