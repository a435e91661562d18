use Rattle.firm_faults.proofs.SettledLaws.{settled_nets_stand}
use Rattle.firm_faults.proofs.ground.settled_nets_stand.Goals as goal

pub returns : goal.returns
returns c = settled_nets_stand
