use Rattle.checked_cells.proofs.ToldFactLaws.{told_drives_are_true}
use Rattle.checked_cells.proofs.told.told_drives_are_true.Goals as goal

pub returns : goal.returns
returns c = told_drives_are_true
