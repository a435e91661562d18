use Rattle.written_cells.proofs.LimitLaws.{written_models_are_small}
use Rattle.written_cells.proofs.written_models_are_small.Goals as goal

pub returns : goal.returns
returns c = written_models_are_small
