use Rattle.substitute.proofs.ChosenLaws.{one_more_brings_its_own}
use Rattle.substitute.proofs.laws.one_more_brings_its_own.Goals as goal

pub returns : goal.returns
returns c = one_more_brings_its_own
