use Rattle.std.proofs.Common.{refl}
use Rattle.model_laws.specs.SmallCircuits.{whole_output}
use Rattle.vrt_model.proofs.Tables.{are_signals}
use Rattle.vrt_model.specs.declared.whole.Drive.TheVariants.{Soft, Level}
use Rattle.model_laws.proofs.small_circuits.whole_outputs.Goals as goal

pub returns-clause-soft : goal.returns-clause-soft
returns-clause-soft c = are_signals (whole_output Soft) 1 _ _ _ refl

pub returns-clause-level : goal.returns-clause-level
returns-clause-level c = are_signals (whole_output (Level 6)) 1 _ _ _ refl
