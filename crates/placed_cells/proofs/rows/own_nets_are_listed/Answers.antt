use Rattle.placed_cells.proofs.RowLaws.{own_nets_are_listed}
use Rattle.placed_cells.proofs.rows.own_nets_are_listed.Goals as goal

pub returns : goal.returns
returns c = own_nets_are_listed
