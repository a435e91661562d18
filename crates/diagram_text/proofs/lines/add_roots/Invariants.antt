use Rattle.std.proofs.Common.{◌≡◌, ◌++◌, drop, map}
use Rattle.diagram_text.specs.Lines.{root_at}
use Rattle.diagram_text.proofs.lines.add_roots.Given as goal

-- the numbers so far, and what is left
abbrev pub invariant-loop-h : goal.invariant-loop-h
invariant-loop-h l =
    l.roots.items ++ map (root_at l.list) (drop l.h-index l.handles) ≡ l.initial.roots.items ++ map (root_at l.list) l.handles
