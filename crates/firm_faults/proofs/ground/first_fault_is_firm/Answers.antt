use Rattle.firm_faults.proofs.FirstFirm.{first_fault_is_firm}
use Rattle.firm_faults.proofs.ground.first_fault_is_firm.Goals as goal

pub returns : goal.returns
returns c = first_fault_is_firm
