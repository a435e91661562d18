use Rattle.cell_inside.proofs.LeftWholeLaws.{left_whole_is_same}
use Rattle.cell_inside.proofs.roots.left_whole_is_same.Goals as goal

pub returns : goal.returns
returns c = left_whole_is_same
