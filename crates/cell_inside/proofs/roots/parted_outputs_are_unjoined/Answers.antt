use Rattle.cell_inside.proofs.UnjoinedLaws.{parted_outputs_are_unjoined}
use Rattle.cell_inside.proofs.roots.parted_outputs_are_unjoined.Goals as goal

pub returns : goal.returns
returns c = parted_outputs_are_unjoined
