use Rattle.trial_cycles.proofs.TrialLaws.{any_tried_may_be_whole}
use Rattle.trial_cycles.proofs.trials.any_tried_may_be_whole.Goals as goal

pub returns : goal.returns
returns c = any_tried_may_be_whole
