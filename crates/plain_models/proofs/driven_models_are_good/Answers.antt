use Rattle.plain_models.proofs.DriverLaws.{driven_models_are_good}
use Rattle.plain_models.proofs.driven_models_are_good.Goals as goal

pub returns : goal.returns
returns c = driven_models_are_good
