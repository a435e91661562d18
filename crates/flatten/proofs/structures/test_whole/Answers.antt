use Rattle.std.proofs.Common.{◌∙◌, sym}
use Rattle.flatten.proofs.StructureLaws.{causes_are, sized_large, structured}
use Rattle.vrt_model.specs.Unsupported.{top_before}
use Rattle.flatten.proofs.structures.test_whole.Goals as goal

pub sizes_with-requires-clause-numbered : goal.sizes_with-requires-clause-numbered
sizes_with-requires-clause-numbered c = c.requires.indexed.cells_are

pub test_unrolled-requires-clause-numbered : goal.test_unrolled-requires-clause-numbered
test_unrolled-requires-clause-numbered c = c.requires.indexed.cells_are

pub returns : goal.returns
returns c =
    let t = top_before c.args.design.now c.args.rules.now c.args.cell in
    let indexed = c.requires.indexed in
    structured t c.test_unrolled.result (sym (sized_large t _ c.in_ok-counts.ensures) ∙ sym c.in_default.ensures)
    (causes_are c.args.design.now c.args.rules.now c.args.cell c.args.index.now.supplies c.args.index.now.models c.test_unrolled.result indexed.rules_are.supplies_are indexed.models_are
    c.test_unrolled.ensures)

pub returns-in-Some : goal.returns-in-Some
returns-in-Some c =
    let t = top_before c.args.design.now c.args.rules.now c.args.cell in
    sym (sized_large t _ c.in_ok-counts.ensures) ∙ sym c.in-Some.ensures
