use Rattle.replaced_cells.proofs.AgreementLaws.{one_more_whole_agrees_by_faults}
use Rattle.replaced_cells.proofs.agreement.one_more_whole_agrees_by_faults.Goals as goal

pub returns : goal.returns
returns c = one_more_whole_agrees_by_faults
