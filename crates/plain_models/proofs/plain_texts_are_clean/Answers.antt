use Rattle.plain_models.proofs.NoFaults.{plain_texts_are_clean}
use Rattle.plain_models.proofs.plain_texts_are_clean.Goals as goal

pub returns : goal.returns
returns c = plain_texts_are_clean
