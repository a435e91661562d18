use Rattle.cell_inside.proofs.RootLaws.{whole_stands_for_unjoined_outputs}
use Rattle.cell_inside.proofs.roots.whole_stands_for_unjoined_outputs.Goals as goal

pub returns : goal.returns
returns c = whole_stands_for_unjoined_outputs
