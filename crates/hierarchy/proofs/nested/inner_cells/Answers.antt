use Rattle.hierarchy.proofs.NestedLaws.{inner_is}
use Rattle.hierarchy.proofs.nested.inner_cells.Goals as goal

pub returns : goal.returns
returns c = inner_is c.args.design.now c.args.names.now _ c.as_slice.result.now c.requires c.as_slice.ensures c.in_ok-all.ensures
