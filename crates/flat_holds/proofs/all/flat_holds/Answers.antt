use Rattle.flat_holds.proofs.FallLaws.{are_roomy}
use Rattle.flat_holds.proofs.all.flat_holds.Goals as goal

pub best_spots-requires : goal.best_spots-requires
best_spots-requires c =
    are_roomy c.args.design.now c.args.rules.now c.args.unrolled.now c.args.cell c.args.tables.now c.requires.tables c.requires.unrolled c.requires.small
