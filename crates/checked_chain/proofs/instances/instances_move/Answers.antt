use Rattle.checked_chain.proofs.InstanceLaws.{instances_move}
use Rattle.checked_chain.proofs.instances.instances_move.Goals as goal

pub returns : goal.returns
returns c = instances_move
