use Rattle.model_laws.proofs.WellFormed.{weak_devices}
use Rattle.model_laws.proofs.circuits.well_formed.Goals as goal

pub returns-clause-devices : goal.returns-clause-devices
returns-clause-devices c = weak_devices
