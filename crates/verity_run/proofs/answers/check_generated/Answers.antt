use Rattle.verity_run.specs.Asked.{ReportsGenerated}
use Rattle.verity_run.proofs.ReportLaws.{generated_ends, put_ends, stopped_ends}
use Rattle.verity_run.proofs.answers.check_generated.Goals as goal

pub tell_generated-requires-clause-fault : goal.tell_generated-requires-clause-fault
tell_generated-requires-clause-fault g c =
    (put_ends c.args.ready.now.inputs.design c.args.ready.now.inputs.blif c.args.ready.now.inputs.rules c.args.budget c.args.ready.now.cells _ c.in-Ok.ensures.put.0 _ _ c.in-Ok.ensures.put.1).written

pub tell_generated-requires-clause-memory : goal.tell_generated-requires-clause-memory
tell_generated-requires-clause-memory g c =
    (put_ends c.args.ready.now.inputs.design c.args.ready.now.inputs.blif c.args.ready.now.inputs.rules c.args.budget c.args.ready.now.cells _ c.in-Ok.ensures.put.0 _ _ c.in-Ok.ensures.put.1).had

pub returns-in-Ok : goal.returns-in-Ok
returns-in-Ok g c =
    generated_ends c.args.ready.now.inputs.design c.args.ready.now.inputs.blif c.args.ready.now.inputs.rules c.args.budget c.args.size c.args.ready.now.cells _ _ c.in-Ok.ensures.put.0 _ _ _ _ _ _ c.in-Ok.ensures.put.1
    c.report_cells.ensures.later c.tell_generated.ensures

pub returns-in-Err : goal.returns-in-Err
returns-in-Err g c =
    let i = c.args.ready.now.inputs in
    stopped_ends i.design i.blif i.rules c.args.budget c.args.ready.now.cells _ _ _ _ _ (ReportsGenerated i.design i.blif i.rules c.args.budget c.args.size c.args.ready.now.cells) c.in-Err.ensures.stopped
