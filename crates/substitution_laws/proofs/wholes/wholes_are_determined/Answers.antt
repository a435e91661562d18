use Rattle.substitution_laws.proofs.WholeCells.{wholes_are_determined}
use Rattle.substitution_laws.proofs.wholes.wholes_are_determined.Goals as goal

pub returns : goal.returns
returns c = wholes_are_determined
