use Rattle.std.proofs.Common.{arith}
use Rattle.names.proofs.NameLaws.{names_exit}
use Rattle.vrt_model.specs.declared.blif.BlifModel.{BlifModel}
use Rattle.blif_checks.proofs.tables.names_of.Goals as goal

pub returns : goal.returns
returns c = names_exit (λ (m : BlifModel). m.name) c.loop-model.model-index c.args.models.now c.loop-model.names (omega arith) c.loop-model.invariant
