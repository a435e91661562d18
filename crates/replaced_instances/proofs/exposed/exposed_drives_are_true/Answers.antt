use Rattle.replaced_instances.proofs.ChosenOutputs.{exposed_drives_are_true}
use Rattle.replaced_instances.proofs.exposed.exposed_drives_are_true.Goals as goal

pub returns : goal.returns
returns c = exposed_drives_are_true
