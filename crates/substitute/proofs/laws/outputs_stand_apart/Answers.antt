use Rattle.substitute.proofs.ChosenLaws.{outputs_stand_apart}
use Rattle.substitute.proofs.laws.outputs_stand_apart.Goals as goal

pub returns : goal.returns
returns c = outputs_stand_apart
