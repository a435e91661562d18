use Rattle.written_models.proofs.NodeOrder.{nodes_are_ordered}
use Rattle.written_models.proofs.nodes_are_ordered.Goals as goal

pub returns : goal.returns
returns c = nodes_are_ordered
