use Rattle.fault_places.proofs.SearchLaws.{case_found}
use Rattle.fault_places.proofs.searches.case_found.Goals as goal

pub returns : goal.returns
returns c = case_found
