use Rattle.cell_writer.proofs.StandingLaws.{written_cells_stand}
use Rattle.cell_writer.proofs.laws.written_cells_stand.Goals as goal

pub returns : goal.returns
returns c = written_cells_stand
