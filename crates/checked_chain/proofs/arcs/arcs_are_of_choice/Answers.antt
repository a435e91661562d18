use Rattle.checked_chain.proofs.LinkLaws.{arcs_are_of_choice}
use Rattle.checked_chain.proofs.arcs.arcs_are_of_choice.Goals as goal

pub returns : goal.returns
returns c = arcs_are_of_choice
