-- What stops a cell is its verdict, and nothing is known of it then.
use Rattle.std.proofs.Common.{Err, subst, sym}
use Rattle.cell_compare.proofs.CompleteLaws.{complete}
use Rattle.cell_compare.specs.Cells.{IsComplete}
use Rattle.cell_compare.specs.Stops.{PlannedOrStops}
use Rattle.cell_compare.specs.declared.verdict.Compared.{Compared}
use Rattle.cell_compare.specs.declared.not_compared.Stop.{Stop}
use Rattle.vrt_model.specs.declared.verdict.Verdict.TheVariants.{Unsupported}
use Rattle.cell_compare.proofs.verdict.compare_prepared.Goals as goal

pub returns-in-Err-Unsupported-clause-complete : goal.returns-in-Err-Unsupported-clause-complete
returns-in-Err-Unsupported-clause-complete c =
    let a = c.args in
    let stops = subst (λ (stop : Stop). PlannedOrStops a.design.now a.blif.now a.rules.now a.cell (Err stop)) c.in-Err-Unsupported.field-0-is c.in-Err-Unsupported.ensures in
    subst (λ (x : Compared). IsComplete a.design.now a.blif.now a.rules.now a.budget a.cell x.verdict) (sym c.not_compared-in-Err-Unsupported.ensures)
    (complete a.design.now a.blif.now a.rules.now a.facts.now a.budget a.cell (Unsupported c.in-Err-Unsupported.why) stops.cause)
