use Rattle.model_laws.proofs.PathLaws.{no_stronger_through}
use Rattle.model_laws.proofs.paths.sources_on_paths.Goals as goal

pub returns : goal.returns
returns c = no_stronger_through
