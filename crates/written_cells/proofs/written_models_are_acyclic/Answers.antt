use Rattle.written_cells.proofs.WrittenArcs.{written_models_are_acyclic}
use Rattle.written_cells.proofs.written_models_are_acyclic.Goals as goal

pub returns : goal.returns
returns c = written_models_are_acyclic
