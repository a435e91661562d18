use Rattle.substitute.proofs.RightLaws.{acyclic_is_chosen, open_is_chosen}
use Rattle.substitute.proofs.laws.acyclic_is_chosen.Goals as goal

pub returns-clause-opened : goal.returns-clause-opened
returns-clause-opened c = open_is_chosen

pub returns-clause-acyclic : goal.returns-clause-acyclic
returns-clause-acyclic c = acyclic_is_chosen
