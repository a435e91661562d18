use Rattle.fault_places.proofs.SearchLaws.{first_spot}
use Rattle.fault_places.proofs.searches.first_spot.Goals as goal

pub returns : goal.returns
returns c = first_spot
