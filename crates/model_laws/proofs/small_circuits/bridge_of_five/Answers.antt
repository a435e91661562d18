use Rattle.std.proofs.Common.{true, false, refl}
use Rattle.model_laws.specs.SmallCircuits.{bridge_at}
use Rattle.vrt_model.proofs.Tables.{are_signals, signal_response}
use Rattle.model_laws.proofs.small_circuits.bridge_of_five.Goals as goal

pub returns-clause-to_r : goal.returns-clause-to_r
returns-clause-to_r c = are_signals (bridge_at true false true false true) 3 _ _ _ refl

pub returns-clause-to_l : goal.returns-clause-to_l
returns-clause-to_l c = are_signals (bridge_at false true true true false) 3 _ _ _ refl

pub returns-clause-shut : goal.returns-clause-shut
returns-clause-shut c = are_signals (bridge_at true false false false true) 1 _ _ _ refl

pub returns-clause-floats : goal.returns-clause-floats
returns-clause-floats c = signal_response (bridge_at true false false false true) _ _ _ (returns-clause-shut c) 7
