use Rattle.place_paths.proofs.PathLaws.{cards_apart}
use Rattle.place_paths.proofs.instances_are_apart.Goals as goal

pub returns : goal.returns
returns c = cards_apart
