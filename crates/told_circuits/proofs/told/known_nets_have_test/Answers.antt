use Rattle.told_circuits.proofs.ToldLaws.{known_nets_have_test}
use Rattle.told_circuits.proofs.told.known_nets_have_test.Goals as goal

pub returns : goal.returns
returns c = known_nets_have_test
