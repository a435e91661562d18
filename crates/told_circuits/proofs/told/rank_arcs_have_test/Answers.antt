use Rattle.told_circuits.proofs.ToldLaws.{rank_arcs_have_test}
use Rattle.told_circuits.proofs.told.rank_arcs_have_test.Goals as goal

pub returns : goal.returns
returns c = rank_arcs_have_test
