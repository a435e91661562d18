use Rattle.model_laws.proofs.OneCell.{agree_from}
use Rattle.model_laws.proofs.circuits.one_cell.Goals as goal

pub returns : goal.returns
returns c = agree_from
