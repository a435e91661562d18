use Rattle.whole_solutions.proofs.KnownInsideLaws.{known_inside_is_assured}
use Rattle.whole_solutions.proofs.known_inside.known_inside_is_assured.Goals as goal

pub returns : goal.returns
returns c = known_inside_is_assured
