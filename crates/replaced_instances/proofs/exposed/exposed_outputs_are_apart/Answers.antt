use Rattle.replaced_instances.proofs.ChosenOutputs.{exposed_outputs_are_apart}
use Rattle.replaced_instances.proofs.exposed.exposed_outputs_are_apart.Goals as goal

pub returns : goal.returns
returns c = exposed_outputs_are_apart
