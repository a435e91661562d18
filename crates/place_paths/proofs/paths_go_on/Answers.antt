use Rattle.place_paths.proofs.PathLaws.{here_or_over}
use Rattle.place_paths.proofs.paths_go_on.Goals as goal

pub returns : goal.returns
returns c = here_or_over
