use Rattle.substitution_laws.proofs.FirstLaws.{first_faults_stand_below}
use Rattle.substitution_laws.proofs.first.first_faults_stand_below.Goals as goal

pub returns : goal.returns
returns c = first_faults_stand_below
