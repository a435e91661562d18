use Rattle.verity_run.proofs.WriteLaws.{blif_stops}
use Rattle.verity_run.proofs.answers.blif_cell.Goals as goal

pub returns-in-Ok : goal.returns-in-Ok
returns-in-Ok g c =
    let i = c.args.ready.now.inputs in
    blif_stops i.design i.blif i.rules c.args.budget c.args.cell.now c.in-Ok.found.count c.in-Ok.found.lines _ _ _ _ _ c.in-Ok.ensures c.in-Err-put_cell.ensures.stopped
