use Rattle.substitution_laws.proofs.StepDownLaws.{steps_go_down}
use Rattle.substitution_laws.proofs.downs.steps_go_down.Goals as goal

pub returns : goal.returns
returns c = steps_go_down
