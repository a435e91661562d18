use Rattle.plain_models.proofs.OneModel.{plain_texts_are_read}
use Rattle.plain_models.proofs.plain_texts_are_read.Goals as goal

pub returns : goal.returns
returns c = plain_texts_are_read
