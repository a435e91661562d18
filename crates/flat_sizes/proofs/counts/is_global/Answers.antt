use Rattle.flat_sizes.proofs.CountLaws.{at_once, further_in}
use Rattle.flat_sizes.proofs.counts.is_global.Goals as goal

pub returns-then-is_global_at : goal.returns-then-is_global_at
returns-then-is_global_at c = at_once c.args.design.now c.args.rules.now c.args.name.now c.args.cell _ c.is_global_at.ensures c.if-is_global_at.true

pub returns-else-is_global_at : goal.returns-else-is_global_at
returns-else-is_global_at c =
    further_in c.args.design.now c.args.rules.now c.args.name.now c.args.cell c.args.stands.now _ _ c.requires c.is_global_at.ensures c.if-is_global_at.false c.is_named.ensures
