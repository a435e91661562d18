use Rattle.substitution_laws.proofs.EndsLaws.{chosen_ends_are_shown}
use Rattle.substitution_laws.proofs.ends.chosen_ends_are_shown.Goals as goal

pub returns : goal.returns
returns c = chosen_ends_are_shown
