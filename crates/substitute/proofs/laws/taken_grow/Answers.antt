use Rattle.substitute.proofs.TakenLaws.{taken_grow}
use Rattle.substitute.proofs.laws.taken_grow.Goals as goal

pub returns : goal.returns
returns c = taken_grow
