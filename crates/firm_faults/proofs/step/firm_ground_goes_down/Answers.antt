use Rattle.firm_faults.proofs.StepLaws.{firm_ground_goes_down}
use Rattle.firm_faults.proofs.step.firm_ground_goes_down.Goals as goal

pub returns : goal.returns
returns c = firm_ground_goes_down
