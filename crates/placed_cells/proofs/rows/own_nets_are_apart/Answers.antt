use Rattle.placed_cells.proofs.RowLaws.{own_nets_are_apart}
use Rattle.placed_cells.proofs.rows.own_nets_are_apart.Goals as goal

pub returns : goal.returns
returns c = own_nets_are_apart
