use Rattle.phase_laws.proofs.Observed.{observed_nets}
use Rattle.phase_laws.proofs.places.observed_nets.Goals as goal

pub returns : goal.returns
returns c = observed_nets
