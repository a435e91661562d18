use Rattle.std.proofs.Common.{arith}
use Rattle.vrt_model.specs.declared.design.Cell.{Cell}
use Rattle.names.proofs.NameLaws.{names_exit}
use Rattle.net_tables.proofs.shared.add_cells.Goals as goal

pub returns : goal.returns
returns c = names_exit (λ (x : Cell). x.name) c.loop-cell.cell-index c.args.cells.now c.loop-cell.names (omega arith) c.loop-cell.invariant
