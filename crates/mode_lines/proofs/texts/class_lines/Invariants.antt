use Rattle.std.proofs.Common.{◌≡◌, ◌++◌, drop}
use Rattle.mode_lines.specs.Lines.{class_lines}
use Rattle.mode_lines.proofs.texts.class_lines.Given as goal

-- the lines so far, and those of the parts that are left
abbrev pub invariant-loop-part : goal.invariant-loop-part
invariant-loop-part l = l.lines ++ class_lines l.cell l.circuit (drop l.part-index l.classes) ≡ class_lines l.cell l.circuit l.classes
