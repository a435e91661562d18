use Rattle.module_cells.proofs.ModuleLaws.{equal_cells_do}
use Rattle.module_cells.proofs.laws.equal_cells_do_as_said.Goals as goal

pub returns : goal.returns
returns c = equal_cells_do
