use Rattle.std.proofs.Common.{true, false, refl}
use Rattle.model_laws.specs.SmallCircuits.{dynamic_as}
use Rattle.vrt_model.proofs.Tables.{are_signals}
use Rattle.model_laws.proofs.small_circuits.keepers.Goals as goal

pub returns-clause-bare : goal.returns-clause-bare
returns-clause-bare c = are_signals (dynamic_as true) 1 _ _ _ refl

pub returns-clause-kept : goal.returns-clause-kept
returns-clause-kept c = are_signals (dynamic_as false) 1 _ _ _ refl
