use Rattle.placed_cells.proofs.NamedLaws.{assumed_ports_are_there}
use Rattle.placed_cells.proofs.named.assumed_ports_are_there.Goals as goal

pub returns : goal.returns
returns c = assumed_ports_are_there
