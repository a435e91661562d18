use Rattle.std.proofs.Common.{arith}
use Rattle.flat_sizes.proofs.TotalLaws.{one_more}
use Rattle.flat_sizes.proofs.totals.add_cell.Goals as goal

pub returns : goal.returns
returns c = one_more c.args.cell c.args.count c.saturating_add.result c.args.table.now (omega (arith, c.told-table, c.requires)) c.saturating_add.ensures
