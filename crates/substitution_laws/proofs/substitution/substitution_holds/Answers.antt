use Rattle.substitution_laws.proofs.SubstitutionLaws.{substitution_holds}
use Rattle.substitution_laws.proofs.substitution.substitution_holds.Goals as goal

pub returns : goal.returns
returns c = substitution_holds
