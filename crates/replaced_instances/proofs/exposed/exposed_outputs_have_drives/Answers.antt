use Rattle.replaced_instances.proofs.ChosenOutputs.{exposed_outputs_have_drives}
use Rattle.replaced_instances.proofs.exposed.exposed_outputs_have_drives.Goals as goal

pub returns : goal.returns
returns c = exposed_outputs_have_drives
