use Rattle.replaced_cells.proofs.SharedFaults.{faults_are_shared}
use Rattle.replaced_cells.proofs.faults.faults_are_shared.Goals as goal

pub returns : goal.returns
returns c = faults_are_shared
