use Rattle.placed_cells.proofs.InstanceLaws.{instance_is_placed}
use Rattle.placed_cells.proofs.instances.instance_is_placed.Goals as goal

pub returns : goal.returns
returns c = instance_is_placed
