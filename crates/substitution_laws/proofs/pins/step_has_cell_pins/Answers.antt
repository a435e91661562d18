use Rattle.substitution_laws.proofs.WholePins.{step_has_cell_pins}
use Rattle.substitution_laws.proofs.pins.step_has_cell_pins.Goals as goal

pub returns : goal.returns
returns c = step_has_cell_pins
