use Rattle.substitute.proofs.ChosenLaws.{front_is_all}
use Rattle.substitute.proofs.laws.front_is_all.Goals as goal

pub returns : goal.returns
returns c = front_is_all
