use Rattle.std.proofs.Common.{subst}
use Rattle.cell_compare.specs.Cells.{IsEarly, IsFlattenedTo}
use Rattle.verity_run.proofs.ClassLaws.{early_told}
use Rattle.verity_run.proofs.cell_lines.found_lines.Goals as goal

pub returns-in-Some : goal.returns-in-Some
returns-in-Some c =
    early_told c.args.inputs.now.design c.args.inputs.now.blif c.args.inputs.now.rules c.args.number c.cell_of.result.now c.cell_of.ensures c.args.found.now.verdict c.in-Some.verdict
    c.args.found.now.flattened c.verdict_lines.result c.in-Some.is c.requires.early c.requires.line c.verdict_lines.ensures

pub class_lines_of-requires-clause-early : goal.class_lines_of-requires-clause-early
class_lines_of-requires-clause-early c =
    subst (IsEarly c.args.inputs.now.design c.args.inputs.now.blif c.args.inputs.now.rules c.args.number) c.in-None.is c.requires.early

pub class_lines_of-requires-clause-made : goal.class_lines_of-requires-clause-made
class_lines_of-requires-clause-made c =
    let i = c.args.inputs.now in
    subst (λ o. IsFlattenedTo i.design i.blif i.rules c.args.number o c.args.found.now.flattened) c.in-None.is c.requires.made
