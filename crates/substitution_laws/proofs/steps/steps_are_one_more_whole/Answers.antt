use Rattle.substitution_laws.proofs.OneMoreLaws.{steps_are_one_more_whole}
use Rattle.substitution_laws.proofs.steps.steps_are_one_more_whole.Goals as goal

pub returns : goal.returns
returns c = steps_are_one_more_whole
