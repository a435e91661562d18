use Rattle.plain_models.proofs.FlatLaws.{driven_models_are_flat}
use Rattle.plain_models.proofs.driven_models_are_flat.Goals as goal

pub returns : goal.returns
returns c = driven_models_are_flat
