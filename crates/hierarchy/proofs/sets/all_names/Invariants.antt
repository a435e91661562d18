use Rattle.std.proofs.Common.{◌≡◌, map, take}
use Rattle.vrt_model.specs.Lists.{distinct}
use Rattle.vrt_model.specs.declared.design.Cell.{Cell}
use Rattle.hierarchy.specs.Sets.{names_in}
use Rattle.hierarchy.proofs.sets.all_names.Given as goal

-- the sets of the cells so far
abbrev pub invariant-loop-cell : goal.invariant-loop-cell
invariant-loop-cell l = l.sets ≡ map (λ (c : Cell). distinct (names_in l.kind c)) (take l.cell-index l.cells)
