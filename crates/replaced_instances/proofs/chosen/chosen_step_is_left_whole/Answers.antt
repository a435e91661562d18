use Rattle.replaced_instances.proofs.ChosenSteps.{chosen_step_is_left_whole}
use Rattle.replaced_instances.proofs.chosen.chosen_step_is_left_whole.Goals as goal

pub returns : goal.returns
returns c = chosen_step_is_left_whole
