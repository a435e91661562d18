use Rattle.std.proofs.Common.{◌≡◌, ◌++◌, drop, map}
use Rattle.diagram_text.specs.Lines.{line_at}
use Rattle.diagram_text.proofs.lines.add_lines.Given as goal

-- the lines so far, and what is left
abbrev pub invariant-loop-h : goal.invariant-loop-h
invariant-loop-h l =
    l.lines.items ++ map (line_at l.store l.list) (drop l.h-index l.nodes) ≡ l.initial.lines.items ++ map (line_at l.store l.list) l.nodes
