use Rattle.checked_cells.proofs.GivenLaws.{checked_cells_are_by_facts}
use Rattle.checked_cells.proofs.given.checked_cells_are_by_facts.Goals as goal

pub returns : goal.returns
returns c = checked_cells_are_by_facts
