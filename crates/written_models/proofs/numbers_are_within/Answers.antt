use Rattle.written_models.proofs.NodeOrder.{numbers_are_within}
use Rattle.written_models.proofs.numbers_are_within.Goals as goal

pub returns : goal.returns
returns c = numbers_are_within
