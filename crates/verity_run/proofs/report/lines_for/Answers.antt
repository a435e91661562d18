use Rattle.verity_run.proofs.ClassLaws.{task_told}
use Rattle.verity_run.proofs.report.lines_for.Goals as goal

pub returns-in-Check-clause-lines : goal.returns-in-Check-clause-lines
returns-in-Check-clause-lines c = task_told c.args.ready.now.inputs _ _ c.args.number c.args.task _ c.checked.result c.in-Check.is c.checked.ensures.checked
