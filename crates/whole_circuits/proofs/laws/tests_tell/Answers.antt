use Rattle.whole_circuits.proofs.ChosenLaws.{tests_tell}
use Rattle.whole_circuits.proofs.laws.tests_tell.Goals as goal

pub returns : goal.returns
returns c = tests_tell
