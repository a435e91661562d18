use Rattle.replaced_cells.proofs.SharedFaults.{faults_stand_below}
use Rattle.replaced_cells.proofs.faults.faults_stand_below.Goals as goal

pub returns : goal.returns
returns c = faults_stand_below
