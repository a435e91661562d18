use Rattle.placed_cells.proofs.NamedLaws.{hold_nets_are_there}
use Rattle.placed_cells.proofs.named.hold_nets_are_there.Goals as goal

pub returns : goal.returns
returns c = hold_nets_are_there
