use Rattle.fault_places.proofs.SearchLaws.{least_found}
use Rattle.fault_places.proofs.searches.least_found.Goals as goal

pub returns : goal.returns
returns c = least_found
