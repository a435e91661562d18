use Rattle.std.proofs.Common.{refl}
use Rattle.model_laws.specs.SmallCircuits.{through_input, ring}
use Rattle.vrt_model.proofs.Tables.{are_signals}
use Rattle.model_laws.proofs.small_circuits.input_and_ring.Goals as goal

pub returns-clause-blocked : goal.returns-clause-blocked
returns-clause-blocked c = are_signals through_input 1 _ _ _ refl

pub returns-clause-ring : goal.returns-clause-ring
returns-clause-ring c = are_signals ring 2 _ _ _ refl
