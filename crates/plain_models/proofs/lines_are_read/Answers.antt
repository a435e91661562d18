use Rattle.plain_models.proofs.ReadBack.{lines_are_read}
use Rattle.plain_models.proofs.lines_are_read.Goals as goal

pub returns : goal.returns
returns c = lines_are_read
