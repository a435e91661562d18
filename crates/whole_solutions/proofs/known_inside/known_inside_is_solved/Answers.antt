use Rattle.whole_solutions.proofs.KnownInsideLaws.{known_inside_is_solved}
use Rattle.whole_solutions.proofs.known_inside.known_inside_is_solved.Goals as goal

pub returns : goal.returns
returns c = known_inside_is_solved
