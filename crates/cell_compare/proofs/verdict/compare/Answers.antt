-- The facts as a slice are the facts.
use Rattle.std.proofs.Common.{List, subst, sym}
use Rattle.std.specs.Prelude.{IfOk}
use Rattle.cell_compare.specs.Cells.{HasFacts}
use Rattle.cell_compare.specs.declared.verdict.Compared.{Compared}
use Rattle.checked_cells.specs.Given.{AreTrueFacts}
use Rattle.vrt_model.specs.CheckedVerdicts.{IsCheckedVerdict}
use Rattle.vrt_model.specs.declared.whole.CellFacts.{CellFacts}
use Rattle.cell_compare.proofs.verdict.compare.Goals as goal

pub compare_prepared-requires-clause-facts : goal.compare_prepared-requires-clause-facts
compare_prepared-requires-clause-facts c = subst (AreTrueFacts c.args.design.now c.args.blif.now c.args.rules.now) (sym c.as_slice.ensures) c.requires.facts

pub returns-clause-verdict : goal.returns-clause-verdict
returns-clause-verdict c =
    subst (λ (facts : List CellFacts). IfOk c.compare_prepared.result (λ (x : Compared). IsCheckedVerdict c.args.design.now c.args.blif.now c.args.rules.now facts c.args.budget c.args.cell x.verdict)) c.as_slice.ensures c.compare_prepared.ensures.verdict

pub returns-clause-facts : goal.returns-clause-facts
returns-clause-facts c =
    subst (λ (facts : List CellFacts). IfOk c.compare_prepared.result (λ (x : Compared). HasFacts c.args.design.now c.args.blif.now c.args.rules.now facts c.args.cell x.verdict x.facts)) c.as_slice.ensures c.compare_prepared.ensures.facts

pub compare_prepared-requires-clause-kept : goal.compare_prepared-requires-clause-kept
compare_prepared-requires-clause-kept c = c.in_ok-kept.ensures c.args.design.now c.args.blif.now c.args.rules.now c.as_slice.result.now c.len.ensures
