use Rattle.checked_chain.proofs.StepLaws.{one_more_is_next}
use Rattle.checked_chain.proofs.steps.one_more_is_next.Goals as goal

pub returns : goal.returns
returns c = one_more_is_next
