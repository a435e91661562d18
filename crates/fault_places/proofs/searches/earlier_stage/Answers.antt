use Rattle.std.specs.Prelude.{List, Bool}
use Rattle.fault_places.proofs.SearchLaws.{earlier_stage}
use Rattle.fault_places.specs.Searches.{Case, IsFoundAt, StandsIn}
use Rattle.fault_places.proofs.searches.earlier_stage.Goals as goal

pub returns-clause-findings : goal.returns-clause-findings
returns-clause-findings c k phase = earlier_stage (List Bool) (IsFoundAt k phase)

pub returns-clause-faults : goal.returns-clause-faults
returns-clause-faults c k phase = earlier_stage (Case k phase) (StandsIn k phase)
