use Rattle.trial_cycles.proofs.TrialLaws.{any_trials_are_acyclic}
use Rattle.trial_cycles.proofs.trials.any_trials_are_acyclic.Goals as goal

pub returns : goal.returns
returns c = any_trials_are_acyclic
