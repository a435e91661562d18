use Rattle.checked_chain.proofs.InstanceLaws.{instances_are_shown}
use Rattle.checked_chain.proofs.instances.instances_are_shown.Goals as goal

pub returns : goal.returns
returns c = instances_are_shown
