use Rattle.checked_cells.proofs.WholeLaws.{checked_circuits_are_acyclic}
use Rattle.checked_cells.proofs.outputs.checked_circuits_are_acyclic.Goals as goal

pub returns : goal.returns
returns c = checked_circuits_are_acyclic
