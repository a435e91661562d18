use Rattle.substitution_laws.proofs.LaterLaws.{later_faults_stand_below}
use Rattle.substitution_laws.proofs.later.later_faults_stand_below.Goals as goal

pub returns : goal.returns
returns c = later_faults_stand_below
