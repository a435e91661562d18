use Rattle.replaced_cells.proofs.GoesUpByFaults.{agreement_goes_up_by_faults}
use Rattle.replaced_cells.proofs.agreement.agreement_goes_up_by_faults.Goals as goal

pub returns : goal.returns
returns c = agreement_goes_up_by_faults
