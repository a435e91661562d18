-- What stops a cell is told early, and a planned one is supported.
use Rattle.cell_room.proofs.SupportedLaws.{supported}
use Rattle.cell_compare.proofs.not_compared.early_prepared.Goals as goal

pub returns-in-Ok-clause-early : goal.returns-in-Ok-clause-early
returns-in-Ok-clause-early c =
    let is = c.in-Ok.ensures.1 in
    (c.in-Ok.ensures.0, supported c.args.design.now c.args.blif.now c.args.rules.now c.args.cell c.in-Ok.ensures.0 c.in-Ok.planned.flattened is.flattened is.planned)
