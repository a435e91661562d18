use Rattle.written_models.proofs.WrittenNames.{written_models_are_unrolled}
use Rattle.written_models.proofs.written_models_are_unrolled.Goals as goal

pub returns : goal.returns
returns c = written_models_are_unrolled
