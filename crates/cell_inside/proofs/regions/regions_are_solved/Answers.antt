use Rattle.cell_inside.proofs.RegionLaws.{regions_are_solved}
use Rattle.cell_inside.proofs.regions.regions_are_solved.Goals as goal

pub returns : goal.returns
returns c = regions_are_solved
