use Rattle.whole_solutions.proofs.ObservedLaws.{observed_nets_are_there}
use Rattle.whole_solutions.proofs.observed.observed_nets_are_there.Goals as goal

pub returns : goal.returns
returns c = observed_nets_are_there
