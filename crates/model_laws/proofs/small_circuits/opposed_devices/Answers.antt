use Rattle.std.proofs.Common.{refl}
use Rattle.model_laws.specs.SmallCircuits.{opposed, least}
use Rattle.vrt_model.proofs.Tables.{are_signals, signal_response}
use Rattle.model_laws.proofs.small_circuits.opposed_devices.Goals as goal

pub returns-clause-equal : goal.returns-clause-equal
returns-clause-equal c = are_signals (opposed 6 6) 1 _ _ _ refl

pub returns-clause-fight : goal.returns-clause-fight
returns-clause-fight c = signal_response (opposed 6 6) _ _ _ (returns-clause-equal c) 2

pub returns-clause-up : goal.returns-clause-up
returns-clause-up c = are_signals (opposed 6 5) 1 _ _ _ refl

pub returns-clause-down : goal.returns-clause-down
returns-clause-down c = are_signals (opposed 4 7) 1 _ _ _ refl

pub returns-clause-least : goal.returns-clause-least
returns-clause-least c = are_signals least 2 _ _ _ refl
