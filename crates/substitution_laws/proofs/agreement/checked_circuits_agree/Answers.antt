use Rattle.substitution_laws.proofs.AgreementLaws.{checked_circuits_agree}
use Rattle.substitution_laws.proofs.agreement.checked_circuits_agree.Goals as goal

pub returns : goal.returns
returns c = checked_circuits_agree
