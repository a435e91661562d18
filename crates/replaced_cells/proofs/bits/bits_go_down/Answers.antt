use Rattle.replaced_cells.proofs.GoesDown.{bits_go_down}
use Rattle.replaced_cells.proofs.bits.bits_go_down.Goals as goal

pub returns : goal.returns
returns c = bits_go_down
