use Rattle.firm_faults.proofs.StepPartLaws.{replaced_instances_step_down}
use Rattle.firm_faults.proofs.step.replaced_instances_step_down.Goals as goal

pub returns : goal.returns
returns c = replaced_instances_step_down
