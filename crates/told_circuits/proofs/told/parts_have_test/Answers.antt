use Rattle.told_circuits.proofs.ToldLaws.{parts_have_test}
use Rattle.told_circuits.proofs.told.parts_have_test.Goals as goal

pub returns : goal.returns
returns c = parts_have_test
