use Rattle.checked_cells.proofs.CircuitLaws.{checked_circuits_share}
use Rattle.checked_cells.proofs.circuits.checked_circuits_share.Goals as goal

pub returns : goal.returns
returns c = checked_circuits_share
