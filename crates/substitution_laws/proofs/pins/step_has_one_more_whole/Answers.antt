use Rattle.substitution_laws.proofs.WholePins.{step_has_one_more_whole}
use Rattle.substitution_laws.proofs.pins.step_has_one_more_whole.Goals as goal

pub returns : goal.returns
returns c = step_has_one_more_whole
