use Rattle.blif_checks.proofs.NestedLaws.{inner_is}
use Rattle.blif_checks.proofs.inner.inner_models.Goals as goal

pub returns : goal.returns
returns c = inner_is c.args.blif.now c.args.tables.now _ c.as_slice.result.now c.requires c.as_slice.ensures c.in_ok-all.ensures
