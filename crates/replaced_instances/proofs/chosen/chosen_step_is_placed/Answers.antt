use Rattle.replaced_instances.proofs.ChosenSteps.{chosen_step_is_placed}
use Rattle.replaced_instances.proofs.chosen.chosen_step_is_placed.Goals as goal

pub returns : goal.returns
returns c = chosen_step_is_placed
