use Rattle.verity_run.specs.Classes.{IsClassed}
use Rattle.verity_run.proofs.ReportLaws.{all_ends, front_ends}
use Rattle.verity_run.proofs.answers.class_cells.Goals as goal

pub returns-in-Ok : goal.returns-in-Ok
returns-in-Ok g c = all_ends (IsClassed c.args.ready.now.inputs.design c.args.ready.now.inputs.blif c.args.ready.now.inputs.rules) _ c.args.ready.now.cells _ _ _ _ _ c.in-Ok.ensures.put.0 c.in-Ok.ensures.put.1

pub returns-in-Err : goal.returns-in-Err
returns-in-Err g c = front_ends (IsClassed c.args.ready.now.inputs.design c.args.ready.now.inputs.blif c.args.ready.now.inputs.rules) _ c.args.ready.now.cells _ _ _ _ _ c.in-Err.ensures.stopped
