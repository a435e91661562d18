use Rattle.checked_chain.proofs.StepLaws.{none_more_is_same}
use Rattle.checked_chain.proofs.steps.none_more_is_same.Goals as goal

pub returns : goal.returns
returns c = none_more_is_same
