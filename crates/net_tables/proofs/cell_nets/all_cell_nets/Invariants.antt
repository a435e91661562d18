use Rattle.std.proofs.Common.{◌≡◌, map, take}
use Rattle.net_tables.specs.Names.{nets_by}
use Rattle.net_tables.proofs.cell_nets.all_cell_nets.Given as goal

-- the nets of the cells so far
abbrev pub invariant-loop-cell : goal.invariant-loop-cell
invariant-loop-cell l = l.all ≡ map (nets_by l.shared) (take l.cell-index l.cells)
