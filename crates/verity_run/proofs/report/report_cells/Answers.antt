-- At first nothing is known of any cell.
use Rattle.std.proofs.Common.{◌∙◌, [], ℕ, ap, false, replicate, subst, sym}
use Rattle.verity_run.specs.Classes.{IsOfTask}
use Rattle.verity_run.specs.Known.{IsKnown}
use Rattle.verity_run.specs.Reports.{nothing_known}
use Rattle.verity_run.proofs.KnownLaws.{nothing_is_known}
use Rattle.verity_run.proofs.ReportLaws.{nothing_of_report}
use Rattle.vrt_model.specs.declared.whole.CellFacts.{CellFacts}
use Rattle.verity_run.proofs.report.report_cells.Goals as goal

pub report_known-requires-clause-known : goal.report_known-requires-clause-known
report_known-requires-clause-known g c =
    let i = c.args.ready.now.inputs in
    let nothing : CellFacts = record { equal = false; stateless = false; drives = [] } in
    subst (IsKnown i.design i.blif i.rules) (sym (c.in-Ok.ensures.facts ∙ ap (λ (n : ℕ). replicate n nothing) c.len.ensures)) (nothing_is_known i.design i.blif i.rules)

pub returns-in-Err-clause-stopped : goal.returns-in-Err-clause-stopped
returns-in-Err-clause-stopped g c =
    nothing_of_report (IsOfTask c.args.task c.args.ready.now.inputs) (nothing_known c.args.ready.now.inputs.design) c.args.ready.now.cells _ _ _
