use Rattle.std.specs.Prelude.{List, Bool}
use Rattle.fault_places.proofs.SearchLaws.{clear_stages}
use Rattle.fault_places.specs.Searches.{Case, IsFoundAt, StandsIn}
use Rattle.fault_places.proofs.searches.clear_stages.Goals as goal

pub returns-clause-findings : goal.returns-clause-findings
returns-clause-findings c k phase = clear_stages (List Bool) (IsFoundAt k phase)

pub returns-clause-faults : goal.returns-clause-faults
returns-clause-faults c k phase = clear_stages (Case k phase) (StandsIn k phase)
