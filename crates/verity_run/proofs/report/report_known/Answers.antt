use Rattle.std.proofs.Common.{List, ℕ, ap, arith, get_or, length}
use Rattle.verity_run.specs.Classes.{IsOfTask}
use Rattle.verity_run.proofs.CellLaws.{number_there}
use Rattle.verity_run.proofs.ReportLaws.{report_more, report_none, report_stops}
use Rattle.verity_run.proofs.report.report_known.Goals as goal

pub loop-number-init : goal.loop-number-init
loop-number-init g c = (report_none (IsOfTask c.args.task c.args.ready.now.inputs) _ _, omega arith, c.requires.known, c.requires.kept)

pub report_cell-requires-clause-number : goal.report_cell-requires-clause-number
report_cell-requires-clause-number g c =
    let i = c.loop-number.number-index in
    number_there c.args.ready.now.inputs.design c.args.ready.now.cells i _ (omega (arith, ap length c.as_slice-number-items.ensures)) (ap (λ (xs : List ℕ). get_or xs i 0) c.as_slice-number-items.ensures) c.requires.ready.there

pub returns-in-Err-clause-stopped : goal.returns-in-Err-clause-stopped
returns-in-Err-clause-stopped g c =
    let i = c.loop-number.number-index in
    report_stops (IsOfTask c.args.task c.args.ready.now.inputs) _ c.args.ready.now.cells i _ _ _ _ _ _ _ _ _ _ (omega (arith, ap length c.as_slice-number-items.ensures))
    (ap (λ (xs : List ℕ). get_or xs i 0) c.as_slice-number-items.ensures) c.loop-number.invariant.0 c.loop-number.invariant.1 c.in-Err.ensures.stopped

pub loop-number-preserved : goal.loop-number-preserved
loop-number-preserved g c = (
  report_more (IsOfTask c.args.task c.args.ready.now.inputs) _ c.args.ready.now.cells c.loop-number.number-index _ _ _ _ _ _ _ _ (omega (arith, ap length c.as_slice-number-items.ensures))
      (ap (λ (xs : List ℕ). get_or xs c.loop-number.number-index 0) c.as_slice-number-items.ensures) c.loop-number.invariant.0 c.in-Ok.ensures.more,
  omega (arith, c.loop-number.invariant.1, c.report_cell.ensures.later),
  c.report_cell.ensures.known,
  c.in-Ok.ensures.kept,
)
