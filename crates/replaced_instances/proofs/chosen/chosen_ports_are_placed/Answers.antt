use Rattle.replaced_instances.proofs.ChosenSteps.{chosen_ports_are_placed}
use Rattle.replaced_instances.proofs.chosen.chosen_ports_are_placed.Goals as goal

pub returns : goal.returns
returns c = chosen_ports_are_placed
