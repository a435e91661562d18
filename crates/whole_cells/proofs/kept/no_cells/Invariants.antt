use Rattle.std.proofs.Common.{◌≡◌, length}
use Rattle.whole_cells.proofs.kept.no_cells.Given as goal

-- as many as cells so far
abbrev pub invariant-loop-cell : goal.invariant-loop-cell
invariant-loop-cell l = length l.cells.items ≡ l._cell
