use Rattle.std.proofs.Common.{◌∷◌, [], true, false, refl}
use Rattle.model_laws.specs.SmallCircuits.{load_at}
use Rattle.vrt_model.proofs.Tables.{are_signals, signal_response}
use Rattle.model_laws.proofs.small_circuits.blocked_load.Goals as goal

pub returns-clause-high : goal.returns-clause-high
returns-clause-high c = are_signals (load_at true) 2 (8 ∷ 8 ∷ 8 ∷ 4 ∷ 6 ∷ []) (true ∷ false ∷ false ∷ true ∷ true ∷ []) (false ∷ true ∷ true ∷ false ∷ false ∷ []) refl

pub returns-clause-low_at_y : goal.returns-clause-low_at_y
returns-clause-low_at_y c = signal_response (load_at true) _ _ _ (returns-clause-high c) 3

pub returns-clause-low : goal.returns-clause-low
returns-clause-low c = are_signals (load_at false) 2 (8 ∷ 8 ∷ 8 ∷ 4 ∷ 4 ∷ []) (true ∷ false ∷ true ∷ false ∷ false ∷ []) (false ∷ true ∷ false ∷ true ∷ true ∷ []) refl

pub returns-clause-high_at_y : goal.returns-clause-high_at_y
returns-clause-high_at_y c = signal_response (load_at false) _ _ _ (returns-clause-low c) 3
