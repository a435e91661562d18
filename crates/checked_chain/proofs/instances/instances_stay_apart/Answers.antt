use Rattle.checked_chain.proofs.InstanceLaws.{instances_stay_apart}
use Rattle.checked_chain.proofs.instances.instances_stay_apart.Goals as goal

pub returns : goal.returns
returns c = instances_stay_apart
