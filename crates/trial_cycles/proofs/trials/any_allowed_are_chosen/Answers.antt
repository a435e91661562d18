use Rattle.trial_cycles.proofs.TrialLaws.{any_allowed_are_chosen}
use Rattle.trial_cycles.proofs.trials.any_allowed_are_chosen.Goals as goal

pub returns : goal.returns
returns c = any_allowed_are_chosen
