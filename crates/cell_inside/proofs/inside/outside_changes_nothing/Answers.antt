use Rattle.cell_inside.proofs.OutsideLaws.{outside_changes_nothing}
use Rattle.cell_inside.proofs.inside.outside_changes_nothing.Goals as goal

pub returns : goal.returns
returns c = outside_changes_nothing
