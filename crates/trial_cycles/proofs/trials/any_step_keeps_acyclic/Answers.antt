use Rattle.trial_cycles.proofs.TrialLaws.{any_step_keeps_acyclic}
use Rattle.trial_cycles.proofs.trials.any_step_keeps_acyclic.Goals as goal

pub returns : goal.returns
returns c = any_step_keeps_acyclic
