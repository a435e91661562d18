use Rattle.written_cells.proofs.CauseLaws.{no_cause_is_added}
use Rattle.written_cells.proofs.no_cause_is_added.Goals as goal

pub returns : goal.returns
returns c = no_cause_is_added
