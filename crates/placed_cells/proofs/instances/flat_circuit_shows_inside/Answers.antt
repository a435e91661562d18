use Rattle.placed_cells.proofs.InstanceLaws.{flat_circuit_shows_inside}
use Rattle.placed_cells.proofs.instances.flat_circuit_shows_inside.Goals as goal

pub returns : goal.returns
returns c = flat_circuit_shows_inside
