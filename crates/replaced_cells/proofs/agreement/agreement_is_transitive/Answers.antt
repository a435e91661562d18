use Rattle.replaced_cells.proofs.AgreementLaws.{agreement_is_transitive}
use Rattle.replaced_cells.proofs.agreement.agreement_is_transitive.Goals as goal

pub returns : goal.returns
returns c = agreement_is_transitive
