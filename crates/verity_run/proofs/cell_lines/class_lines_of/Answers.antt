use Rattle.std.proofs.Common.{◌≡◌, List, subst, sym}
use Rattle.cell_compare.specs.Cells.{IsFlattenedTo}
use Rattle.std.specs.Prelude.{None}
use Rattle.channel_parts.specs.Classes.{AreClasses}
use Rattle.channel_parts.specs.declared.class.ClassLine.{ClassLine}
use Rattle.mode_lines.specs.Lines.{class_lines}
use Rattle.verity_run.proofs.ClassLaws.{circuit_flat, classes_told}
use Rattle.vrt_model.specs.Circuits.{IsFlat}
use Rattle.vrt_model.specs.declared.circuit.Circuit.{Circuit}
use Rattle.verity_run.proofs.cell_lines.class_lines_of.Goals as goal

pub lines_of_classes-requires : goal.lines_of_classes-requires
lines_of_classes-requires c =
    subst IsFlat (sym c.circuit.ensures)
    (circuit_flat c.args.inputs.now.design c.args.inputs.now.blif c.args.inputs.now.rules c.args.number c.args.flattened.now c.in-Some.found c.in-Some.is c.requires.made)

pub returns-in_ok-lines-in-Some : goal.returns-in_ok-lines-in-Some
returns-in_ok-lines-in-Some c =
    let i = c.args.inputs.now in
    classes_told i.design i.blif i.rules c.args.number c.cell_of-cell.result.now c.in-Some.found c.in_ok-lines-in-Some.lines c.cell_of-cell.ensures c.requires.early
    (subst (IsFlattenedTo i.design i.blif i.rules c.args.number None) c.in-Some.is c.requires.made)
    (subst (λ (x : Circuit). (found : List ClassLine) × AreClasses x i.rules.phases found × (c.in_ok-lines-in-Some.lines ≡ class_lines c.cell_of-cell.result.now.name x found)) c.circuit.ensures
    c.in_ok-lines-in-Some.ensures)
