use Rattle.std.proofs.Common.{Option, subst}
use Rattle.std.specs.Prelude.{IfSome}
use Rattle.std.proofs.lemmas.Result.{IfOk-weaker}
use Rattle.verity_run.proofs.ArrivalLaws.{judged_as}
use Rattle.verity_run.specs.Arrivals.{IsFound}
use Rattle.verity_run.specs.Writes.{IsBlifOf}
use Rattle.verity_run.specs.declared.report.Judged.{Judged}
use Rattle.verity_run.proofs.writes.blif_for.Goals as goal

pub returns-in-Ok-Some : goal.returns-in-Ok-Some
returns-in-Ok-Some c =
    let i = c.args.ready.now.inputs in
    let n = c.in_ok-number.number in
    let found =
    subst (λ (o : Option Judged). IfSome o (IsFound i.design i.blif i.rules c.args.budget c.args.ready.now.cells n)) c.in-Ok-Some.field-0-is c.in-Ok-Some.ensures in
    IfOk-weaker c.found_lines.result _ _
    (λ f h.
    judged_as i.design i.blif i.rules c.args.budget c.args.cell.now n c.args.ready.now.cells (IsBlifOf i.design i.blif i.rules c.args.budget f.count f.lines) c.in_ok-number.ensures c.requires.asked
    c.in-Ok-Some.found.verdict found.verdict h) c.found_lines.ensures
