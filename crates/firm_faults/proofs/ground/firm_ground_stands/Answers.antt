use Rattle.firm_faults.proofs.SettledLaws.{firm_ground_stands}
use Rattle.firm_faults.proofs.ground.firm_ground_stands.Goals as goal

pub returns : goal.returns
returns c = firm_ground_stands
