use Rattle.trial_cycles.proofs.TrialLaws.{carried_clocks_are_known}
use Rattle.trial_cycles.proofs.trials.carried_clocks_are_known.Goals as goal

pub returns : goal.returns
returns c = carried_clocks_are_known
