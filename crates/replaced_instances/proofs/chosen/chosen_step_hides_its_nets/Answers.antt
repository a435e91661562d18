use Rattle.replaced_instances.proofs.ChosenSteps.{chosen_step_hides_its_nets}
use Rattle.replaced_instances.proofs.chosen.chosen_step_hides_its_nets.Goals as goal

pub returns : goal.returns
returns c = chosen_step_hides_its_nets
