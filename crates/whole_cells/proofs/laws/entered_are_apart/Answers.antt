use Rattle.whole_cells.proofs.EnteredLaws.{entered_are_apart}
use Rattle.whole_cells.proofs.laws.entered_are_apart.Goals as goal

pub returns : goal.returns
returns c = entered_are_apart
