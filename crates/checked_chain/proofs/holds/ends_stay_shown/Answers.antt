use Rattle.checked_chain.proofs.EndPlaces.{ends_stay_shown}
use Rattle.checked_chain.proofs.holds.ends_stay_shown.Goals as goal

pub returns : goal.returns
returns c = ends_stay_shown
