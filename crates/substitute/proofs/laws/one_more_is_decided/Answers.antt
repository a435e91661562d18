use Rattle.substitute.proofs.ChosenLaws.{one_more_is_decided}
use Rattle.substitute.proofs.laws.one_more_is_decided.Goals as goal

pub returns : goal.returns
returns c = one_more_is_decided
