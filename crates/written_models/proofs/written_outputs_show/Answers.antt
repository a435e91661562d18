use Rattle.written_models.proofs.WrittenBits.{written_outputs_show}
use Rattle.written_models.proofs.written_outputs_show.Goals as goal

pub returns : goal.returns
returns c = written_outputs_show
