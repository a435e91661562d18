use Rattle.written_cells.proofs.PairLaws.{written_models_pair}
use Rattle.written_cells.proofs.written_models_pair.Goals as goal

pub returns : goal.returns
returns c = written_models_pair
