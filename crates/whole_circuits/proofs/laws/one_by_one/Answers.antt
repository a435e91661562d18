use Rattle.whole_circuits.proofs.ChosenLaws.{all_are_decided, decided_grow}
use Rattle.whole_circuits.proofs.laws.one_by_one.Goals as goal

pub returns-clause-grow : goal.returns-clause-grow
returns-clause-grow c = decided_grow

pub returns-clause-all : goal.returns-clause-all
returns-clause-all c = all_are_decided
