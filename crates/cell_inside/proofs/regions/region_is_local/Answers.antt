use Rattle.cell_inside.proofs.RegionLaws.{region_is_local}
use Rattle.cell_inside.proofs.regions.region_is_local.Goals as goal

pub returns : goal.returns
returns c = region_is_local
