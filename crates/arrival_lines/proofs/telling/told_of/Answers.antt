use Rattle.arrival_lines.proofs.RisingLaws.{are_rising}
use Rattle.cell_room.specs.Compared.{comparison}
use Rattle.arrival_lines.proofs.telling.told_of.Goals as goal

pub monotone_made-requires-clause-rising : goal.monotone_made-requires-clause-rising
monotone_made-requires-clause-rising c =
    are_rising (comparison c.args.design.now c.args.rules.now c.args.cell c.args.flattened.now) c.args.names.now c.args.rising.now c.requires.named c.requires.some
