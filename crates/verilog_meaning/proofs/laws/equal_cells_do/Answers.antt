use Rattle.verilog_meaning.proofs.CellLaws.{equal_does}
use Rattle.verilog_meaning.proofs.laws.equal_cells_do.Goals as goal

pub returns : goal.returns
returns c = equal_does
