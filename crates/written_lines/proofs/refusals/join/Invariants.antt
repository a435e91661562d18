use Rattle.std.proofs.Common.{◌≡◌, ◌++◌, map, drop}
use Rattle.std.specs.List.{concat}
use Rattle.written_lines.proofs.refusals.join.Given as goal

-- the pieces so far, and what the others add
abbrev pub invariant-loop-piece : goal.invariant-loop-piece
invariant-loop-piece l = l.text ++ concat (map (λ x. x.now) (drop l.piece-index l.pieces)) ≡ concat (map (λ x. x.now) l.pieces)
