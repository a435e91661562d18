use Rattle.std.specs.Prelude.{List, Bool}
use Rattle.fault_places.proofs.SearchLaws.{later_stage}
use Rattle.fault_places.specs.Searches.{Case, IsFoundAt, StandsIn}
use Rattle.fault_places.proofs.searches.later_stage.Goals as goal

pub returns-clause-findings : goal.returns-clause-findings
returns-clause-findings c k phase = later_stage (List Bool) (IsFoundAt k phase)

pub returns-clause-faults : goal.returns-clause-faults
returns-clause-faults c k phase = later_stage (Case k phase) (StandsIn k phase)
