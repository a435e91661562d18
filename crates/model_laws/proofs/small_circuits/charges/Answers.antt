use Rattle.std.proofs.Common.{true, false, refl}
use Rattle.model_laws.specs.SmallCircuits.{charge_at, shared}
use Rattle.vrt_model.proofs.Tables.{are_signals}
use Rattle.model_laws.proofs.small_circuits.charges.Goals as goal

pub returns-clause-driven : goal.returns-clause-driven
returns-clause-driven c = are_signals (charge_at true) 1 _ _ _ refl

pub returns-clause-shown : goal.returns-clause-shown
returns-clause-shown c = are_signals (charge_at false) 1 _ _ _ refl

pub returns-clause-equal : goal.returns-clause-equal
returns-clause-equal c = are_signals (shared 2 2) 1 _ _ _ refl

pub returns-clause-larger : goal.returns-clause-larger
returns-clause-larger c = are_signals (shared 3 1) 1 _ _ _ refl
