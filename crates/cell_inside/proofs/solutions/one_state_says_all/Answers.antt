use Rattle.cell_inside.proofs.OneStateLaws.{one_state_says_all}
use Rattle.cell_inside.proofs.solutions.one_state_says_all.Goals as goal

pub returns : goal.returns
returns c = one_state_says_all
