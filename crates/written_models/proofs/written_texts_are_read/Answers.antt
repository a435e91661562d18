use Rattle.written_models.proofs.WrittenNames.{written_texts_are_read}
use Rattle.written_models.proofs.written_texts_are_read.Goals as goal

pub returns : goal.returns
returns c = written_texts_are_read
