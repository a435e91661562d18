use Rattle.verity_run.specs.Reports.{ReportsCells}
use Rattle.verity_run.proofs.ReportLaws.{check_ends, stopped_ends}
use Rattle.verity_run.proofs.answers.check_cells.Goals as goal

pub returns-in-Ok : goal.returns-in-Ok
returns-in-Ok g c = check_ends c.args.ready.now.inputs.design c.args.ready.now.inputs.blif c.args.ready.now.inputs.rules c.args.budget c.args.ready.now.cells _ _ _ _ _ c.in-Ok.ensures.put.0 c.in-Ok.ensures.put.1

pub returns-in-Err : goal.returns-in-Err
returns-in-Err g c =
    let i = c.args.ready.now.inputs in
    stopped_ends i.design i.blif i.rules c.args.budget c.args.ready.now.cells _ _ _ _ _ (ReportsCells i.design i.blif i.rules c.args.budget c.args.ready.now.cells) c.in-Err.ensures.stopped
