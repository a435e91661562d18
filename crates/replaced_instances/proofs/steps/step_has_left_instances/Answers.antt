use Rattle.replaced_instances.proofs.StepInstances.{step_has_left_instances}
use Rattle.replaced_instances.proofs.steps.step_has_left_instances.Goals as goal

pub returns : goal.returns
returns c = step_has_left_instances
