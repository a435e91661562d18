use Rattle.written_cells.proofs.ExchangeLaws.{models_are_exchanged}
use Rattle.written_cells.proofs.models_are_exchanged.Goals as goal

pub returns : goal.returns
returns c = models_are_exchanged
