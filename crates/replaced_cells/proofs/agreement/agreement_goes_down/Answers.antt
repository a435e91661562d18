use Rattle.replaced_cells.proofs.GoesDown.{agreement_goes_down}
use Rattle.replaced_cells.proofs.agreement.agreement_goes_down.Goals as goal

pub returns : goal.returns
returns c = agreement_goes_down
