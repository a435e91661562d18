use Rattle.checked_cells.proofs.CircuitLaws.{checked_circuits_are_formed}
use Rattle.checked_cells.proofs.circuits.checked_circuits_are_formed.Goals as goal

pub returns : goal.returns
returns c = checked_circuits_are_formed
