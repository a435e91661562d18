use Rattle.whole_solutions.proofs.KnownInsideLaws.{known_inside_shows}
use Rattle.whole_solutions.proofs.known_inside.known_inside_shows.Goals as goal

pub returns : goal.returns
returns c = known_inside_shows
