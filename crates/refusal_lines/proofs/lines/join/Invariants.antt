use Rattle.std.proofs.Common.{◌≡◌, ◌++◌, map, drop}
use Rattle.refusal_lines.specs.Lines.{joined}
use Rattle.refusal_lines.proofs.lines.join.Given as goal

-- the pieces so far, and what the others add
abbrev pub invariant-loop-piece : goal.invariant-loop-piece
invariant-loop-piece l = l.text ++ joined (map (λ x. x.now) (drop l.piece-index l.pieces)) ≡ joined (map (λ x. x.now) l.pieces)
