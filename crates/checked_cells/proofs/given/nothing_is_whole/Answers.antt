use Rattle.checked_cells.proofs.NoneWhole.{nothing_is_whole}
use Rattle.checked_cells.proofs.given.nothing_is_whole.Goals as goal

pub returns : goal.returns
returns c = nothing_is_whole
