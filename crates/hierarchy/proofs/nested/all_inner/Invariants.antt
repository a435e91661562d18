use Rattle.std.proofs.Common.{◌≡◌, map, take}
use Rattle.hierarchy.specs.Nested.{numbers_in}
use Rattle.hierarchy.proofs.nested.all_inner.Given as goal

abbrev pub invariant-loop-cell : goal.invariant-loop-cell
invariant-loop-cell l = l.all ≡ map (numbers_in l.names) (take l.cell-index l.cells)
