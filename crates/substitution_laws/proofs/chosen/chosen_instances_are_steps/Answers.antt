use Rattle.substitution_laws.proofs.ChosenLaws.{chosen_instances_are_steps}
use Rattle.substitution_laws.proofs.chosen.chosen_instances_are_steps.Goals as goal

pub returns : goal.returns
returns c = chosen_instances_are_steps
